-- The planned instants of a flow's frames along its route, and what follows where frames begin as planned.
use mathlib.Core.Path.{◌≡◌, refl, sym, ap, subst}
use mathlib.Core.List.{List, [], ◌∷◌}
use Prim.Native.Nat.{ℕ, zero, suc, ◌+◌, ◌*◌, ◌≤◌, ◌<◌}
use native.Mathlib.Nat.{mul-le-mul_right}
use native.Mathlib.Decide.{dec_lt}
use native.Mathlib.Omega.{arith}
use Rattle.spans.specs.Spans.{Within, Share}
use Rattle.network.specs.Flows.{At, here, next, Hop, Flow, Network, Well, Formed, step, arrival, total}
use Rattle.network.specs.Overlap.{first, Apart}
use Rattle.network.specs.Run.{Sent, Ready, initially, onward, frame}
use Rattle.network.proofs.Lists.{At-empty, At-same, At-before}

-- the planned instant of frame a at a hop
abbrev pub planned : Flow → Hop → ℕ → ℕ
planned f h a = first f h + a * f.period

-- before instant t only what is planned has begun, and all of it
pub record Planned (flows : List Flow) (sent : Sent) (t : ℕ) : Type 0 where
  pub only : (q u a : ℕ) (f : Flow) (h : Hop) → u < t → sent q u ≡ frame f h a → u ≡ planned f h a
  pub begun : (j k a : ℕ) (f : Flow) (h : Hop) → At flows j f → At f.hops k h → planned f h a < t → sent h.port (planned f h a) ≡ frame f h a

module _ {net : Network} {f : Flow} (well : Well net f) where
  -- at hop 0 the planned instant is the start of the frame
  pub planned-initially : {h : Hop} (a : ℕ) → At f.hops 0 h → planned f h a ≡ f.start + a * f.period
  planned-initially {h} a hop = let offset = well.route.from h hop in omega arith

  -- the planned instant at the next hop is one step after that at a hop
  pub planned-onward : {k : ℕ} {h i : Hop} (a : ℕ) → At f.hops k h → At f.hops (suc k) i → planned f i a ≡ planned f h a + step net h
  planned-onward {k} {h} {i} a hop following = let offset = well.route.on k h i hop following in omega arith

  -- a step takes at least one instant
  pub step-some : {k : ℕ} {h : Hop} → At f.hops k h → 0 < step net h
  step-some {k} {h} hop = let carried = well.carried k h hop in omega arith

  -- a hop is known by its port
  pub same-hop : {k k' : ℕ} {h i : Hop} → At f.hops k h → At f.hops k' i → h.port ≡ i.port → h ≡ i
  same-hop {k} {k'} {h} {i} hop hop' port = At-same (well.route.apart k k' h i hop hop' port) hop hop'

  -- a frame has left the wire where a later frame of its flow is planned on the port
  pub wire-before-next : {k k' : ℕ} {h i : Hop} (a b : ℕ) → At f.hops k h → At f.hops k' i → h.port ≡ i.port →
      planned f i b < planned f h a → planned f i b + i.wire ≤ planned f h a
  wire-before-next {k} {k'} {h} {i} a b hop hop' port lt =
      let offset = ap (λ (x : Hop). x.offset) (same-hop hop hop' port) in
      let carried = well.carried k' i hop' in
      elim (dec_lt b a) [
        | yes earlier ↦ let periods = mul-le-mul_right f.period earlier in omega arith
        | no later ↦ let periods : a * f.period ≤ b * f.period = mul-le-mul_right f.period (omega arith) in omega arith
      ]

-- the total time of a route is its last hop's offset and arrival
pub total-last : (net : Network) (hops : List Hop) {k : ℕ} {h : Hop} → At hops k h → ((i : Hop) → ¬ At hops (suc k) i) → total net hops ≡ h.offset + arrival net h
total-last net [] hop end = absurd (At-empty hop)
total-last net (h ∷ []) here end = refl
total-last net (h ∷ []) (next hop) end = absurd (At-empty hop)
total-last net (h ∷ i ∷ hops) here end = absurd (end i (next here))
total-last net (h ∷ i ∷ hops) (next hop) end = total-last net (i ∷ hops) hop (λ x following. end x (next following))

-- flows that do not overlap and have frames on one wire at one instant are one flow
pub one-flow : {flows : List Flow} {j j' k k' : ℕ} {f g : Flow} {h i : Hop} → Apart flows →
    At flows j f → At flows j' g → At f.hops k h → At g.hops k' i → h.port ≡ i.port →
    (a b t : ℕ) → Within (first f h) f.period h.wire a t → Within (first g i) g.period i.wire b t → f ≡ g
one-flow {j = j} {j'} {k} {k'} {f} {g} {h} {i} apart flow flow' hop hop' port a b t one other =
    let share : Share (first f h) f.period h.wire (first g i) g.period i.wire = record { a = a; b = b; t = t; one = one; other = other } in
    At-same (apart j j' f g flow flow' (record { j = k; k = k'; h = h; i = i; one = hop; other = hop'; port = port; share = share })) flow flow'

module _ {net : Network} {flows : List Flow} {sent : Sent} {t : ℕ} (formed : Formed net flows) (history : Planned flows sent t) where
  -- a frame that is ready by t is ready at its planned instant
  pub ready_planned : {f : Flow} {j k a : ℕ} {h : Hop} {r : ℕ} → At flows j f → Ready net sent f a k h r → r ≤ t → r ≡ planned f h a
  ready_planned {f} {j} {a = a} flow (initially hop) le = sym (planned-initially (formed.each j f flow) a hop)
  ready_planned {f} {j} {a = a} flow (onward {u = u} {h = h} hop begun following) le =
      let well = formed.each j f flow in
      let on = planned-onward well a hop following in
      let some = step-some well hop in
      let at = history.only h.port u a f h (omega arith) begun in
      omega arith

  -- a frame whose planned instant is by t is ready then
  pub planned-ready : (k : ℕ) {j : ℕ} (a : ℕ) {f : Flow} {h : Hop} → At flows j f → At f.hops k h → planned f h a ≤ t → Ready net sent f a k h (planned f h a)
  planned-ready zero {j} a {f} {h} flow hop le =
      subst (λ (r : ℕ). Ready net sent f a 0 h r) (sym (planned-initially (formed.each j f flow) a hop)) (initially hop)
  planned-ready (suc k) {j} a {f} {h} flow hop le =
      let well = formed.each j f flow in
      let (i, before) = At-before k hop in
      let on = planned-onward well a before hop in
      let some = step-some well before in
      let begun = history.begun j k a f i flow before (omega arith) in
      subst (λ (r : ℕ). Ready net sent f a (suc k) h r) (sym on) (onward before begun hop)
