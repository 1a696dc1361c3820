-- The first row that is free, and where there is none each holds a flow.
use Rattle.std.proofs.Common.{rules}
use borrow.Author.Tests.{tests}
use Rattle.std.proofs.lemmas.Iterator.{YieldsList-from_slice, IsFirst-from_position}
use Rattle.plan.specs.Rows.{IsFree}
use Rattle.plan.proofs.Held.{first_free}
use Rattle.plan.proofs.rows.free_row.Goals as goal

pub returns : goal.returns
returns c =
    let all = c.args.rows.now in
    record {
      cases = first_free all _
          (IsFirst-from_position _ _ _ IsFree (λ row. IsFree row → ⊥) c.position.ensures.ran (YieldsList-from_slice all cc) (λ x q k. search (rules, tests)) (λ x q k. search (rules, tests)));
    }
