-- The look that does not move has found the smallest start, and one that finds none has shown that all are taken.
use Rattle.std.proofs.Common.{◌≡◌, ℕ, ◌<◌, false, not, Some, None, sym, ap, arith}
use native.Mathlib.Decide.{dec_lt}
use Rattle.network.specs.Overlap.{starting}
use Rattle.planning.specs.Overlaps.{fits}
use Rattle.planning.proofs.Lists.{least_unique}
use Rattle.plan.specs.Rows.{flow, flows}
use Rattle.plan.proofs.fit.earliest.Goals as goal

pub returns-in_err-at : goal.returns-in_err-at
returns-in_err-at c =
    let f = flow c.args.row.now in
    let all = flows c.args.rows.now in
    let taken : (r : ℕ) → r < f.period → fits all (starting r f) ≡ false = λ r below. elim (dec_lt r c.loop-at.start) [
      | yes before ↦ ap not (c.loop-at.invariant.1 r before)
      | no from ↦ ap not (c.in_err-at.ensures.skips r (omega arith) below)
    ] in
    rw c.from_residual.ensures (record { value = sym (least_unique (λ s. fits all (starting s f)) 0 f.period None (λ r _ below. taken r (omega arith))) })

pub returns-then-at-start : goal.returns-then-at-start
returns-then-at-start c =
    let f = flow c.args.row.now in
    let all = flows c.args.rows.now in
    let s = c.loop-at.start in
    let skips = c.in_ok-at.ensures.skips in
    let below = c.loop-at.invariant.0 in
    record {
      value = sym (least_unique (λ r. fits all (starting r f)) 0 f.period (Some s)
          (omega arith, omega arith, ap not (skips.3 c.if-at-start.true), λ r _ less. ap not (c.loop-at.invariant.1 r less)));
    }
