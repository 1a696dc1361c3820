-- What is seen of the hops so far and of those to come is what is seen of all.
use Rattle.std.proofs.Common.{◌≡◌, ◌≤◌, min, max}
use Rattle.plan.specs.Looks.{left_at, next_at}
use Rattle.plan.specs.Rows.{flow}
use Rattle.plan.proofs.Looking.{hops-from}
use Rattle.plan.proofs.row.Row.see.Given as goal

abbrev pub invariant-loop-at : goal.invariant-loop-at
invariant-loop-at l =
    let left = hops-from max 0 (left_at l.place (flow l.self)) l.port l.at-items in
    let next = hops-from min 0xffff_ffff (next_at l.place (flow l.self)) l.port l.at-items in
    (l.seen.next ≤ 0xffff_ffff) × (max l.seen.left (left l.at-index) ≡ left 0) × (min l.seen.next (next l.at-index) ≡ next 0)
