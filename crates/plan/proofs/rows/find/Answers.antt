-- The first row that holds the number, and where there is none it is not held.
use Rattle.std.proofs.Common.{rules}
use borrow.Author.Tests.{tests}
use Rattle.std.proofs.lemmas.Iterator.{YieldsList-from_slice, IsFirst-from_position}
use Rattle.plan.specs.Rows.{Holds}
use Rattle.plan.proofs.Held.{first_held}
use Rattle.plan.proofs.rows.find.Goals as goal

pub returns : goal.returns
returns c =
    let n = c.args.number in
    let all = c.args.rows.now in
    record {
      cases = first_held n all _
          (IsFirst-from_position _ _ _ (Holds n) (λ row. Holds n row → ⊥) c.position.ensures.ran (YieldsList-from_slice all cc) (λ x q k. search (rules, tests)) (λ x q k. search (rules, tests)));
    }
