-- One port more: the larger of the two times is that of a port, and at least that of each.
use Rattle.std.proofs.Common.{◌≡◌, ℕ, ◌<◌, arith, below_more}
use native.Mathlib.Decide.{dec_le}
use Rattle.line.proofs.tests.slowest.Goals as goal

pub loop-port-preserved : goal.loop-port-preserved
loop-port-preserved g c =
    let m = g.L.Line.meaning c.args.line.now in
    let l = c.args.length in
    let inv = c.loop-port.invariant in
    let larger = c.max-most.ensures in
    let found : (q : ℕ) × (q < m.ports) × (m.time q l ≡ c.max-most.result) =
    elim (dec_le c.wire_time.result c.loop-port.most) [
      | yes old ↦ (inv.1.0, inv.1.1, omega (arith, inv.1.2))
      | no new ↦ (c.loop-port.port, omega arith, omega arith)
    ] in
    (below_more _ _ (λ q lt. omega (arith, inv.0 q lt)) (omega arith), found)
