-- Past one row more: what the row skips it blocks, so it is taken.
use Rattle.std.proofs.Common.{◌≡◌, ℕ, true, false, get_or, subst, arith, below_more}
use native.Mathlib.Decide.{dec_lt}
use Rattle.std.proofs.lemmas.List.{get_or_read}
use Rattle.plan.specs.declared.row.Row.{Row}
use Rattle.plan.specs.Moves.{blocks}
use Rattle.plan.specs.Rows.{flow, none}
use Rattle.plan.proofs.Skipping.{taken_by, taken_none}
use Rattle.plan.proofs.fit.Trial.pass.Goals as goal

pub returns-in_err-start : goal.returns-in_err-start
returns-in_err-start c =
    let rows = c.args.rows.now in
    let f = flow c.args.self.now.row.now in
    let at = get_or_read rows c.loop-other.other-index c.other-item.result c.loop-other-test.true c.other-item.is none in
    rw c.from_residual.ensures (record {
      skips = λ r more less. elim (dec_lt r c.loop-other.start) [
        | yes before ↦ c.loop-other.invariant.2 r more before
        | no from ↦ taken_by rows f r c.loop-other.other-index c.loop-other-test.true (subst (λ (row : Row). blocks row f r ≡ true) at (c.in_err-start.ensures.skips r (omega arith) less))
      ];
    })

pub loop-other-preserved : goal.loop-other-preserved
loop-other-preserved c =
    let rows = c.args.rows.now in
    let f = flow c.args.self.now.row.now in
    let s = c.args.self.now.start in
    let inv = c.loop-other.invariant in
    let skips = c.in_ok-start.ensures.skips in
    let at = get_or_read rows c.loop-other.other-index c.other-item.result c.loop-other-test.true c.other-item.is none in
    let moved = skips.0 in
    let stayed = inv.0 in (
      omega arith,
      skips.1,
      λ r more less. elim (dec_lt r c.loop-other.start) [
        | yes before ↦ inv.2 r more before
        | no from ↦ taken_by rows f r c.loop-other.other-index c.loop-other-test.true (subst (λ (row : Row). blocks row f r ≡ true) at (skips.2 r (omega arith) less))
      ],
      λ same.
          let before : c.loop-other.start ≡ s = omega arith in
          let here : c.in_ok-start.start ≡ c.loop-other.start = omega arith in
          below_more (λ k. blocks (get_or rows k none) f s ≡ false) c.loop-other.other-index (inv.3 before)
          (subst (λ (r : ℕ). blocks (get_or rows c.loop-other.other-index none) f r ≡ false) before (subst (λ (row : Row). blocks row f c.loop-other.start ≡ false) at (skips.3 here))),
    )

pub returns : goal.returns
returns c =
    let rows = c.args.rows.now in
    let inv = c.loop-other.invariant in
    record {
      skips = (inv.0, inv.1, inv.2, λ same. taken_none rows (flow c.args.self.now.row.now) c.args.self.now.start (λ k below. inv.3 same k (omega arith)));
    }
