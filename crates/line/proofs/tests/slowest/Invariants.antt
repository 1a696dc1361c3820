-- The longest wire time of the ports so far, and a port that has it.
use Rattle.std.proofs.Common.{◌≡◌, ℕ, ◌<◌, ◌≤◌}
use Rattle.line.proofs.tests.slowest.Given as goal

abbrev pub invariant-loop-port : goal.invariant-loop-port
invariant-loop-port g l =
    let m = g.L.Line.meaning l.line in
    ((q : ℕ) → q < l.port → m.time q l.length ≤ l.most) × ((q : ℕ) × (q < m.ports) × (m.time q l.length ≡ l.most))
