-- All starts from the one that is tried up to where the look stands are taken, and if it has not moved no row so far blocks.
use Rattle.std.proofs.Common.{◌≡◌, ℕ, ◌<◌, ◌≤◌, true, false, get_or}
use Rattle.plan.specs.Moves.{blocks, taken}
use Rattle.plan.specs.Rows.{flow, flows, none}
use Rattle.plan.proofs.fit.Trial.pass.Given as goal

abbrev pub invariant-loop-other : goal.invariant-loop-other
invariant-loop-other l =
    (l.self.start ≤ l.start) × (l.start < l.self.row.now.period)
    × ((r : ℕ) → l.self.start ≤ r → r < l.start → taken (flows l.rows) (flow l.self.row.now) r ≡ true)
    × (l.start ≡ l.self.start → (k : ℕ) → k < l.other-index → blocks (get_or l.rows k none) (flow l.self.row.now) l.self.start ≡ false)
