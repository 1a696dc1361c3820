-- The instants at which frames are ready: where they come from, that they tell the frame's number, and a search for ready frames.
use mathlib.Core.Path.{◌≡◌, ◌∙◌, refl, sym, ap, ap₂, subst}
use mathlib.Core.Logic.Dec
use Prim.Native.Nat.{ℕ, zero, suc, ◌+◌, ◌*◌, ◌/◌, ◌≤◌, ◌<◌}
use native.Mathlib.Decide.{dec_le, map_dec}
use native.Mathlib.Nat.{le-mul_of_pos_right, mul-div_cancel}
use native.Mathlib.Omega.{arith}
use Rattle.network.specs.Flows.{At, Hop, Flow, Network, Well, step}
use Rattle.network.specs.Run.{frame, Sent, Ready, initially, onward}
use Rattle.network.proofs.Lists.{At-unique, At-before}
use Rattle.network.proofs.Search.{decided_some_below}
use Rattle.network.proofs.Sendings.{decided_frame_of, frame-number}

-- the period of a well-formed flow is at least 1
pub period-some : {net : Network} {f : Flow} → Well net f → 0 < f.period
period-some well = let start = well.start in omega arith

-- frame a of flow f began at u at its hop k, which is h, one step before r
pub record Begun (net : Network) (sent : Sent) (f : Flow) (a k r : ℕ) : Type 0 where
  pub u : ℕ
  pub h : Hop
  pub hop : At f.hops k h
  pub begun : sent h.port u ≡ frame f h a
  pub after : r ≡ u + step net h

-- where a ready instant comes from: at hop 0 from start and period, at a later hop from the beginning at the hop before
abbrev pub From : Network → Sent → Flow → ℕ → ℕ → ℕ → Type 0
From net sent f a zero r = r ≡ f.start + a * f.period
From net sent f a (suc k) r = Begun net sent f a k r

pub ready-from : {net : Network} {sent : Sent} {f : Flow} {a k : ℕ} {h : Hop} {r : ℕ} → Ready net sent f a k h r → From net sent f a k r
ready-from (initially hop) = refl
ready-from (onward {u = u} {h = h} hop begun following) = record { u = u; h = h; hop = hop; begun = begun; after = refl }

-- frames of one flow that are ready at one hop at one instant have one number
pub ready-number : (k : ℕ) (net : Network) (sent : Sent) (f : Flow) {a b r : ℕ} {h i : Hop} →
    0 < f.period → Ready net sent f a k h r → Ready net sent f b k i r → a ≡ b
ready-number zero net sent f {a} {b} some one other =
    let at = ready-from one in
    let at' = ready-from other in
    let same : a * f.period ≡ b * f.period = omega arith in
    sym (mul-div_cancel a some) ∙ ap (λ (z : ℕ). z / f.period) same ∙ mul-div_cancel b some
ready-number (suc k) net sent f some one other =
    let from = ready-from one in
    let from' = ready-from other in
    let hop : from.h ≡ from'.h = At-unique from.hop from'.hop in
    let steps = ap (λ (x : Hop). step net x) hop in
    let instant : from.u ≡ from'.u = omega arith in
    frame-number from.begun (ap₂ (λ (x : Hop) (u : ℕ). sent x.port u) hop instant ∙ from'.begun)

-- some frame of flow f is ready by t at its hop k, which is h, and it and its ready instant have P
abbrev pub ReadyBy : Network → Sent → Flow → ℕ → (ℕ → ℕ → Type 0) → ℕ → Hop → Type 0
ReadyBy net sent f t P k h = (a : ℕ) × (r : ℕ) × Ready net sent f a k h r × (r ≤ t) × P a r

-- some frame of flow f begins at u at hop h, is ready by t at the next one, and it and that ready instant have P
abbrev Reaches : Network → Sent → Flow → ℕ → (ℕ → ℕ → Type 0) → Hop → ℕ → Type 0
Reaches net sent f t P h u = (a : ℕ) × (sent h.port u ≡ frame f h a) × (u + step net h ≤ t) × P a (u + step net h)

-- where P is decided of each frame and instant
module _ (net : Network) (sent : Sent) (f : Flow) (t : ℕ) (P : ℕ → ℕ → Type 0) (each : (a r : ℕ) → Dec (P a r)) where
  decided_reaches : (h : Hop) (u : ℕ) → Dec (Reaches net sent f t P h u)
  decided_reaches h u = go (decided_frame_of f h (sent h.port u))
    where
      go : Dec ((a : ℕ) × (sent h.port u ≡ frame f h a)) → Dec (Reaches net sent f t P h u)
      go (no other) = no (λ found. other (found.0, found.1))
      go (yes of) =
          map_dec (λ holds. (of.0, of.1, holds.0, holds.1))
          (λ found. (found.2, subst (λ (a : ℕ). P a (u + step net h)) (frame-number found.1 of.1) found.3))
          (Dec.and (dec_le (u + step net h) t) (each of.0 (u + step net h)))

  -- what is ready by t at the hop after h began at h by t
  begun_reaches : (k a r : ℕ) (h : Hop) → At f.hops k h → Begun net sent f a k r → r ≤ t → P a r → (u : ℕ) × (u < suc t) × Reaches net sent f t P h u
  begun_reaches k a r h hop from by holds =
      let after = from.after in
      let reaches : Reaches net sent f t P from.h from.u = (a, from.begun, omega arith, subst (P a) after holds) in
      (from.u, omega arith, subst (λ (x : Hop). Reaches net sent f t P x from.u) (At-unique from.hop hop) reaches)

  -- it is decided whether some frame is ready by t at a hop and has P: at hop 0 frame a is ready no sooner than a ..
  pub decided_ready_by : (k : ℕ) (h : Hop) → At f.hops k h → 0 < f.period → Dec (ReadyBy net sent f t P k h)
  decided_ready_by zero h hop some =
      map_dec (λ found. (found.0, f.start + found.0 * f.period, initially hop, found.2.0, found.2.1))
      (λ found.
      let (a, r, ready, by, holds) = found in
      let at : r ≡ f.start + a * f.period = ready-from ready in
      let least = le-mul_of_pos_right a some in
      (a, omega arith, subst (λ (z : ℕ). (z ≤ t) × P a z) at (by, holds)))
      (decided_some_below (suc t) (λ a. (f.start + a * f.period ≤ t) × P a (f.start + a * f.period))
      (λ a. Dec.and (dec_le (f.start + a * f.period) t) (each a (f.start + a * f.period))))
  -- .. and at a later hop it began at the hop before, by t
  decided_ready_by (suc k) h hop some =
      let (i, before) = At-before k hop in
      map_dec (λ found. (found.2.0, found.0 + step net i, onward before found.2.1 hop, found.2.2, found.2.3))
      (λ found. let (a, r, ready, by, holds) = found in begun_reaches k a r i before (ready-from ready) by holds)
      (decided_some_below (suc t) (Reaches net sent f t P i) (decided_reaches i))
