-- The row that was found has the start, and where none was found the number is not held.
use Rattle.std.proofs.Common.{Some, None, sym, ap, ◌∙◌}
use Rattle.std.proofs.lemmas.List.{get_or_default}
use Rattle.std.proofs.lemmas.Result.{err_from_is_err_and}
use Rattle.plan.specs.declared.row.Row.{Row}
use Rattle.plan.specs.Models.{model, setup}
use Rattle.plan.specs.Rows.{none}
use Rattle.plan.specs.Setups as stored
use Rattle.plan.proofs.Asked.{start-answered}
use Rattle.plan.proofs.Held.{start-found, start_none}
use Rattle.plan.proofs.plan.Plan.start_of.Goals as goal

pub returns-in_err-k-clause-value : goal.returns-in_err-k-clause-value
returns-in_err-k-clause-value g c =
    let plan = c.args.self.now in
    let n = c.args.number in
    let p = err_from_is_err_and c.from_residual-in_err-k.result c.from_residual-in_err-k.ensures.1 in
    let none = c.in_err-k.ensures.ok_part in
    let missing = rw none at c.find.ensures.cases in
    let fault = rw none at c.in_err-k.ensures.value in
    rw (p.1, p.2)
    (fault ∙ sym (start-answered (model plan.setup plan.rows) (stored.setup c.in_ok-set_up_with.field-0.now) n None (ap setup c.in_ok-set_up_with.ensures.set_up) (start_none n _ missing)))

pub returns-clause-value : goal.returns-clause-value
returns-clause-value g c =
    let plan = c.args.self.now in
    let n = c.args.number in
    let found = rw c.in_ok-k.ensures.ok_part at c.find.ensures.cases in
    sym (start-answered (model plan.setup plan.rows) (stored.setup c.in_ok-set_up_with.field-0.now) n (Some _) (ap setup c.in_ok-set_up_with.ensures.set_up)
    (start-found n plan.rows c.in_ok-k.k found.0 found.1 found.2
    ∙ ap (λ (r : Row). Some r.start) (get_or_default plan.rows c.in_ok-k.k none c.index-self-k.result found.0)))
