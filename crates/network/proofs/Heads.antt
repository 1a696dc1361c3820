-- At most one frame may begin on a port at an instant.
use mathlib.Core.Path.{◌≡◌, ◌∙◌, sym, ap, ap₂, subst, subst₂}
use mathlib.Core.List.{List}
use Prim.Native.Nat.{ℕ}
use native.Mathlib.Omega.{arith}
use Rattle.network.specs.Flows.{Hop, Flow, Network, Formed}
use Rattle.network.specs.Run.{frame, Sent, Ready, Queued, May}
use Rattle.network.proofs.Lists.{At-same}
use Rattle.network.proofs.Ready.{period-some, ready-number}

module _ {net : Network} {flows : List Flow} (formed : Formed net flows) {sent : Sent} {t : ℕ} where
  -- two frames of one flow, queued on one port since one instant, are one
  queued-same : {f : Flow} {h i : Hop} {a b r : ℕ} →
      Queued net flows sent f h a r t → Queued net flows sent f i b r t → h.port ≡ i.port → frame f h a ≡ frame f i b
  queued-same {f} {h} {i} {a} {r = r} one other port =
      let well = formed.each one.j f one.flow in
      let index = well.route.apart one.k other.k h i one.hop other.hop port in
      let ready : Ready net sent f a other.k h r = subst (λ (k : ℕ). Ready net sent f a k h r) index one.ready in
      ap₂ (frame f) (At-same index one.hop other.hop) (ready-number other.k net sent f (period-some well) ready other.ready)

  -- two frames that may begin on one port are one: each is the head, so their ready instants and flow numbers are equal
  pub may-same : {gate : ℕ → ℕ → ℕ} {f g : Flow} {h i : Hop} {a b : ℕ} →
      May net flows gate sent f h a t → May net flows gate sent g i b t → h.port ≡ i.port → frame f h a ≡ frame g i b
  may-same {f = f} {g} {h} {i} {a} {b} one other port =
      let queued = one.queued in
      let queued' = other.queued in
      let head = one.head g i b other.r (sym port) queued' in
      let head' = other.head f h a one.r port queued in
      let since : one.r ≡ other.r = omega arith in
      let number : f.number ≡ g.number = omega arith in
      let flow = At-same (formed.numbers queued.j queued'.j f g queued.flow queued'.flow number) queued.flow queued'.flow in
      ap (λ (x : Flow). frame x h a) flow ∙
      queued-same (subst₂ (λ (x : Flow) (r : ℕ). Queued net flows sent x h a r t) flow since queued) queued' port
