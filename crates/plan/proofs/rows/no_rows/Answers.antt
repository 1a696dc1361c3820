-- Each row is the free one.
use Rattle.std.proofs.Common.{replicate, refl, ap, ◌∙◌}
use lib.ListN.{get_or-replicate}
use Rattle.plan.specs.declared.row.Row.{Row}
use Rattle.plan.specs.Rows.{flows, none}
use Rattle.plan.proofs.rows.no_rows.Goals as goal

pub returns : goal.returns
returns c =
    let is = c.no_row.ensures.value in
    record {
      long = refl;
      each = λ k below. get_or-replicate 64 k c.no_row.result none below ∙ is;
      flows = ap (λ (r : Row). flows (replicate 64 r)) is;
    }
