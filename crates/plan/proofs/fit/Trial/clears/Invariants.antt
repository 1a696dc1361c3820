-- The hops so far do not clash at start s, and neither does the one that is looked at with those of the held row so far.
use Rattle.std.proofs.Common.{◌≡◌, ℕ, ◌+◌, ◌<◌, false, get_or}
use Rattle.network.specs.Overlap.{starting}
use Rattle.planning.specs.Lists.{any}
use Rattle.planning.specs.Overlaps.{meets}
use Rattle.plan.specs.Rows.{flow, hop, blank}
use Rattle.plan.proofs.fit.Trial.clears.Given as goal

abbrev pub invariant-loop-at : goal.invariant-loop-at
invariant-loop-at l =
    (k : ℕ) → k < l.at-index →
    any (λ i. meets (starting (l.self.start + 0) (flow l.self.row.now)) (hop (get_or l.at-items k blank)) (flow l.held) i) (flow l.held).hops ≡ false

abbrev pub invariant-loop-other : goal.invariant-loop-other
invariant-loop-other l =
    (k : ℕ) → k < l.other-index →
    meets (starting (l.self.start + 0) (flow l.self.row.now)) (hop (get_or l.at-items l.at-index blank)) (flow l.held) (hop (get_or l.other-items k blank)) ≡ false
