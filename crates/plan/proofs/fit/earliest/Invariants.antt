-- All starts below the one that is tried are taken.
use Rattle.std.proofs.Common.{◌≡◌, ℕ, ◌-◌, ◌<◌, true}
use Rattle.plan.specs.Moves.{taken}
use Rattle.plan.specs.Rows.{flow, flows}
use Rattle.plan.proofs.fit.earliest.Given as goal

abbrev pub invariant-loop-at : goal.invariant-loop-at
invariant-loop-at l = (l.start < l.row.period) × ((r : ℕ) → r < l.start → taken (flows l.rows) (flow l.row) r ≡ true)

abbrev pub decreases-loop-at : goal.decreases-loop-at
decreases-loop-at l = l.row.period - l.start
