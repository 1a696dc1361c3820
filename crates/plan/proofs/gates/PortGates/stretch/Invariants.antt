-- The state lasts through the places found so far.
use Rattle.std.proofs.Common.{◌+◌, ◌-◌, ◌<◌, ◌≤◌}
use Rattle.sheet.specs.Gates.{octet_of}
use Rattle.planning.specs.Gates.{state_by, Lasts}
use Rattle.plan.specs.Rows.{flows}
use Rattle.plan.proofs.gates.PortGates.stretch.Given as goal

abbrev pub invariant-loop-found : goal.invariant-loop-found
invariant-loop-found l =
    (0 < l.found.duration) × (l.place + l.found.duration ≤ l.self.cycle)
    × Lasts (state_by l.self.guard (flows l.self.rows.now) l.self.port) l.place l.found.duration (octet_of l.found.state)

abbrev pub decreases-loop-found : goal.decreases-loop-found
decreases-loop-found l = l.self.cycle - (l.place + l.found.duration)
