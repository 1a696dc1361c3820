-- It is decided whether some queued frame has a decided property, whether a frame is the head of its queue, and whether one may begin.
use mathlib.Core.Path.{◌≡◌, refl, subst}
use mathlib.Core.List.{List}
use mathlib.Core.Logic.Dec
use mathlib.Core.Logic.{◌⊎◌, inl, inr}
use Prim.Native.Nat.{ℕ, ◌+◌, ◌%◌, ◌≤◌, ◌<◌}
use native.Mathlib.Decide.{dec_le, dec_lt, ℕ_discrete, map_dec}
use Rattle.network.specs.Flows.{At, Hop, Flow, Network, Formed}
use Rattle.network.specs.Run.{frame, Sent, Idle, Ready, Queued, Head, May}
use Rattle.network.proofs.Lists.{Found, decided_found}
use Rattle.network.proofs.Search.{decided_all_below}
use Rattle.network.proofs.Sendings.{decided_frame}
use Rattle.network.proofs.Ready.{period-some, decided_ready_by}

-- frame a of flow f has not begun at hop h before t
abbrev Unsent : Sent → Flow → Hop → ℕ → ℕ → Type 0
Unsent sent f h a t = (u : ℕ) → u < t → ¬ (sent h.port u ≡ frame f h a)

decided_unsent : (sent : Sent) (f : Flow) (h : Hop) (a t : ℕ) → Dec (Unsent sent f h a t)
decided_unsent sent f h a t = decided_all_below t (λ u. ¬ (sent h.port u ≡ frame f h a)) (λ u. Dec.not (decided_frame f h a (sent h.port u)))

-- a frame of flow f that is ready since r goes before one of flow g that is ready since z
abbrev Before : Flow → ℕ → Flow → ℕ → Type 0
Before f r g z = (r < z) ⊎ ((r ≡ z) × (f.number ≤ g.number))

decided_before : (f : Flow) (r : ℕ) (g : Flow) (z : ℕ) → Dec (Before f r g z)
decided_before f r g z = go (dec_lt r z) (Dec.and (ℕ_discrete r z) (dec_le f.number g.number))
  where
    go : Dec (r < z) → Dec ((r ≡ z) × (f.number ≤ g.number)) → Dec (Before f r g z)
    go (yes lt) same = yes (inl lt)
    go (no later) (yes same) = yes (inr same)
    go (no later) (no other) = no (elim [ inl lt ↦ later lt | inr same ↦ other same ])

-- the state is 0x80 at t and throughout the wire time of hop h
abbrev Opened : Network → (ℕ → ℕ → ℕ) → Hop → ℕ → Type 0
Opened net gate h t = (n : ℕ) → n < h.wire → gate h.port ((t + n) % net.cycle) ≡ 0x80

decided_opened : (net : Network) (gate : ℕ → ℕ → ℕ) (h : Hop) (t : ℕ) → Dec (Opened net gate h t)
decided_opened net gate h t =
    decided_all_below h.wire (λ n. gate h.port ((t + n) % net.cycle) ≡ 0x80)
    (λ n. ℕ_discrete (gate h.port ((t + n) % net.cycle)) 0x80)

-- it is decided whether the wire of a port is idle
decided_idle : (net : Network) (sent : Sent) (q t : ℕ) → Dec (Idle net sent q t)
decided_idle net sent q t = decided_all_below t _ (λ u. dec_le _ _)

-- some frame of flow f is queued at hop h at t, and has P
abbrev QueuedAt : Network → List Flow → Sent → ℕ → (Flow → Hop → ℕ → ℕ → Type 0) → Flow → Hop → Type 0
QueuedAt net flows sent t P f h = (a : ℕ) × (r : ℕ) × Queued net flows sent f h a r t × P f h a r

-- some frame is queued at t, and has P
abbrev QueuedWith : Network → List Flow → Sent → ℕ → (Flow → Hop → ℕ → ℕ → Type 0) → Type 0
QueuedWith net flows sent t P = (f : Flow) × (h : Hop) × QueuedAt net flows sent t P f h

-- some frame may begin on port q at t
abbrev pub MayOn : Network → List Flow → (ℕ → ℕ → ℕ) → Sent → ℕ → ℕ → Type 0
MayOn net flows gate sent q t = (f : Flow) × (h : Hop) × (a : ℕ) × (h.port ≡ q) × May net flows gate sent f h a t

module _ (net : Network) (flows : List Flow) (formed : Formed net flows) (sent : Sent) (t : ℕ) where
  -- where P is decided of each frame at each hop since each instant, it is decided whether some queued frame has it
  module _ (P : Flow → Hop → ℕ → ℕ → Type 0) (each : (f : Flow) (h : Hop) (a r : ℕ) → Dec (P f h a r)) where
    decided_queued_at : (j : ℕ) (f : Flow) → At flows j f → (k : ℕ) (h : Hop) → At f.hops k h → Dec (QueuedAt net flows sent t P f h)
    decided_queued_at j f flow k h hop =
        let well = formed.each j f flow in
        map_dec
        (λ found.
        let (a, r, ready, since, (unsent, holds)) = found in
        (a, r, record { j = j; k = k; flow = flow; hop = hop; ready = ready; since = since; unsent = unsent }, holds))
        (λ found.
        let (a, r, queued, holds) = found in
        let index = well.route.apart queued.k k h h queued.hop hop refl in
        (a, r, subst (λ (n : ℕ). Ready net sent f a n h r) index queued.ready, queued.since, (queued.unsent, holds)))
        (decided_ready_by net sent f t (λ a r. Unsent sent f h a t × P f h a r) (λ a r. Dec.and (decided_unsent sent f h a t) (each f h a r)) k h hop (period-some well))

    decided_queued_with : Dec (QueuedWith net flows sent t P)
    decided_queued_with =
        map_dec (λ found. (found.x, found.holds.x, found.holds.holds))
        (λ found.
        let (f, h, at) = found in
        let queued = at.2 in
        record { n = queued.j; x = f; at = queued.flow; holds = record { n = queued.k; x = h; at = queued.hop; holds = at } })
        (decided_found (λ f. Found (QueuedAt net flows sent t P f) f.hops) flows
        (λ j f flow. decided_found (QueuedAt net flows sent t P f) f.hops (decided_queued_at j f flow)))

  -- a frame is the head unless some frame queued on its port does not come after it
  decided_head : (f : Flow) (h : Hop) (r : ℕ) → Dec (Head net flows sent f h r t)
  decided_head f h r =
      go
      (decided_queued_with (λ g i b z. (i.port ≡ h.port) × (¬ Before f r g z))
      (λ g i b z. Dec.and (ℕ_discrete i.port h.port) (Dec.not (decided_before f r g z))))
    where
      go : Dec (QueuedWith net flows sent t (λ g i b z. (i.port ≡ h.port) × (¬ Before f r g z))) → Dec (Head net flows sent f h r t)
      go (yes found) = let (g, i, (b, z, queued, (port, fails))) = found in no (λ head. fails (head g i b z port queued))
      go (no none) =
          yes (λ g i b z port queued. elim (decided_before f r g z) [ yes holds ↦ holds | no fails ↦ absurd (none (g, i, (b, z, queued, (port, fails)))) ])

  -- it is decided whether some frame may begin on port q at t
  pub decided_may_on : (gate : ℕ → ℕ → ℕ) (q : ℕ) → Dec (MayOn net flows gate sent q t)
  decided_may_on gate q =
      map_dec
      (λ found.
      let (f, h, (a, r, queued, (port, (head, (idle, opened))))) = found in
      (f, h, a, port, record { r = r; queued = queued; head = head; idle = idle; opened = opened }))
      (λ found.
      let (f, h, a, port, may) = found in
      (f, h, (a, may.r, may.queued, (port, (may.head, (may.idle, may.opened))))))
      (decided_queued_with (λ f h a r. (h.port ≡ q) × (Head net flows sent f h r t × (Idle net sent h.port t × Opened net gate h t)))
      (λ f h a r. Dec.and (ℕ_discrete h.port q) (Dec.and (decided_head f h r) (Dec.and (decided_idle net sent h.port t) (decided_opened net gate h t)))))
