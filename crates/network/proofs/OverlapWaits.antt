-- Where two flows overlap a frame waits in every run: either a frame is late on its way, or both are on one wire at one instant, which no run has.
use mathlib.Core.Path.{◌≡◌, sym, ◌∙◌, ap, subst}
use mathlib.Core.List.{List}
use mathlib.Core.Logic.{◌⊎◌, inl, inr}
use Prim.Native.Nat.{ℕ, zero, suc, ◌+◌, ◌≤◌, ◌<◌}
use native.Mathlib.Decide.{dec_lt}
use native.Mathlib.Omega.{arith}
use Rattle.spans.specs.Spans.{Within}
use Rattle.network.specs.Flows.{At, Hop, Flow, Network, Formed}
use Rattle.network.specs.Overlap.{first, Clash}
use Rattle.network.specs.Run.{Sent, Sending, frame, lasts, Idle, Ready, initially, onward, Run, Waits}
use Rattle.network.specs.Theorems.{OverlapWaits}
use Rattle.network.proofs.Lists.{At-before}
use Rattle.network.proofs.Plans.{planned, planned-initially, planned-onward}
use Rattle.network.proofs.Sendings.{decided_frame}

-- equal frames are of flows with equal numbers
frame-flow : {f g : Flow} {h i : Hop} {a b : ℕ} → frame f h a ≡ frame g i b → f.number ≡ g.number
frame-flow {f} {g} e = let same : f ≡ g = cc in ap (λ (x : Flow). x.number) same

module _ {net : Network} {flows : List Flow} {gate : ℕ → ℕ → ℕ} {sent : Sent} (formed : Formed net flows) (run : Run net flows gate sent) where
  -- a frame that is ready at r begins then, or some frame waits
  ready-waits_or-begins : {j k : ℕ} {f : Flow} {h : Hop} (a r : ℕ) → At flows j f → At f.hops k h →
      Ready net sent f a k h r → Waits net flows sent ⊎ (sent h.port r ≡ frame f h a)
  ready-waits_or-begins {j} {k} {f} {h} a r flow hop ready = elim (decided_frame f h a (sent h.port r)) [
    | yes begun ↦ inr begun
    | no late ↦ inl (record { j = j; k = k; a = a; r = r; f = f; h = h; flow = flow; hop = hop; ready = ready; late = late })
  ]

  -- at each hop a frame begins at its planned instant, or some frame waits
  waits_or-begins : (k : ℕ) {j : ℕ} {f : Flow} {h : Hop} (a : ℕ) → At flows j f → At f.hops k h → Waits net flows sent ⊎ (sent h.port (planned f h a) ≡ frame f h a)
  waits_or-begins zero {j} {f} {h} a flow hop =
      let at = planned-initially (formed.each j f flow) a hop in
      ready-waits_or-begins a (planned f h a) flow hop (subst (λ (r : ℕ). Ready net sent f a 0 h r) (sym at) (initially hop))
  waits_or-begins (suc k) {j} {f} {h} a flow hop =
      let (i, before) = At-before k hop in
      let on = planned-onward (formed.each j f flow) a before hop in
      elim (waits_or-begins k a flow before) [
        | inl waits ↦ inl waits
        | inr begun ↦ ready-waits_or-begins a (planned f h a) flow hop (subst (λ (r : ℕ). Ready net sent f a (suc k) h r) (sym on) (onward before begun hop))
      ]

  -- a frame has left the wire where a later one begins on the port
  wire-before : {q u t a b : ℕ} {f g : Flow} {h i : Hop} → sent q u ≡ frame f h a → sent q t ≡ frame g i b → u < t → u + h.wire ≤ t
  wire-before {q} {u} {t} {b = b} {g = g} {i = i} one other lt =
      let only = run.only q t b g i other in
      let idle = subst (λ (x : ℕ). Idle net sent x t) only.0 only.1.idle in
      subst (λ (x : Sending). u + lasts net q x ≤ t) one (idle u lt)

  -- frames of two flows do not both begin as planned on a port where their spans share an instant
  not_both : {j j' : ℕ} {f g : Flow} {h i : Hop} (q a b t : ℕ) → At flows j f → At flows j' g → j < j' →
      Within (first f h) f.period h.wire a t → Within (first g i) g.period i.wire b t →
      sent q (planned f h a) ≡ frame f h a → ¬ (sent q (planned g i b) ≡ frame g i b)
  not_both {j} {j'} {f} {g} {h} {i} q a b t flow flow' two one other begun begun' = elim (dec_lt (planned f h a) (planned g i b)) [
    | yes before ↦ let ended = wire-before begun begun' before in omega arith
    | no not-before ↦ elim (dec_lt (planned g i b) (planned f h a)) [
      | yes after ↦ let ended = wire-before begun' begun after in omega arith
      | no not_after ↦
          let at : planned f h a ≡ planned g i b = omega arith in
          let number = frame-flow (sym begun ∙ ap (λ (u : ℕ). sent q u) at ∙ begun') in
          let index = formed.numbers j j' f g flow flow' number in
          omega arith
    ]
  ]

  -- where two flows overlap, some frame waits
  clash-waits : Clash flows → Waits net flows sent
  clash-waits clash =
      let g = clash.g in
      let overlap = clash.overlap in
      let i = overlap.i in
      let share = overlap.share in
      let b = share.b in
      elim (waits_or-begins overlap.j share.a clash.one overlap.one) [
        | inl waits ↦ waits
        | inr begun ↦ elim (waits_or-begins overlap.k b clash.other overlap.other) [
          | inl waits ↦ waits
          | inr begun' ↦
              let on_port = subst (λ (q : ℕ). sent q (planned g i b) ≡ frame g i b) (sym overlap.port) begun' in
              absurd (not_both overlap.h.port share.a b share.t clash.one clash.other clash.two share.one share.other begun on_port)
        ]
      ]

-- where two flows overlap, some frame waits in every run, whatever the gates
pub overlap-waits : OverlapWaits
overlap-waits net flows gate sent formed clash run = clash-waits formed run clash
