-- What is seen of the rows so far and of those to come is what is seen of all.
use Rattle.std.proofs.Common.{◌≡◌, ◌≤◌, min, max}
use Rattle.plan.specs.Looks.{left_at, next_at}
use Rattle.plan.proofs.Looking.{rows-from}
use Rattle.plan.proofs.gates.PortGates.see.Given as goal

abbrev pub invariant-loop-row : goal.invariant-loop-row
invariant-loop-row l =
    let left = rows-from max 0 (left_at l.place) l.self.port l.self.rows.now in
    let next = rows-from min 0xffff_ffff (next_at l.place) l.self.port l.self.rows.now in
    (l.seen.next ≤ 0xffff_ffff) × (max l.seen.left (left l.row-index) ≡ left 0) × (min l.seen.next (next l.row-index) ≡ next 0)
