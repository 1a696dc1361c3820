-- The row that held the number is free again, and the others are as they were.
use Rattle.std.proofs.Common.{◌≡◌, ℕ, ◌<◌, Some, None, Ok, Err, Result, sym, ap, ◌∙◌, length-set, arith}
use Rattle.std.proofs.lemmas.Result.{err_from_is_err_and}
use Rattle.fault.specs.declared.kinds.PlanFault.{PlanFault}
use Rattle.network.specs.Overlap.{Overlap}
use Rattle.plan.specs.declared.row.Row.{Row}
use Rattle.plan.specs.declared.row.State.TheVariants.{Free}
use Rattle.plan.specs.Models.{model, setup}
use Rattle.plan.specs.Plans.{Namesakes}
use Rattle.plan.specs.Setups as stored
use Rattle.plan.proofs.Asked.{start-answered, never_both}
use Rattle.plan.proofs.Held.{start-found, start_none, flows_removed}
use Rattle.plan.proofs.Two.{two_freed, only_row}
use Rattle.plan.proofs.plan.Plan.withdraw.Goals as goal

-- the answer to a withdrawal from that to the question for the start
done : Result ℕ PlanFault → Result (Unit {0}) PlanFault
done (Ok s) = Ok tt
done (Err e) = Err e

pub returns-in_err-k-clause-value : goal.returns-in_err-k-clause-value
unfolding done
returns-in_err-k-clause-value g c =
    let plan = c.args.self.now in
    let n = c.args.number in
    let p = err_from_is_err_and c.from_residual-in_err-k.result c.from_residual-in_err-k.ensures.1 in
    let none = c.in_err-k.ensures.ok_part in
    let missing = rw none at c.find.ensures.cases in
    let fault = rw none at c.in_err-k.ensures.value in
    let asked = start-answered (model plan.setup plan.rows) (stored.setup c.in_ok-set_up_with.field-0.now) n None (ap setup c.in_ok-set_up_with.ensures.set_up) (start_none n _ missing) in
    rw (p.1, p.2) (ap done (fault ∙ sym asked))

pub invariant_of-self : goal.invariant_of-self
invariant_of-self g c =
    let plan = c.args.self.now in
    let k = c.in_ok-k.k in
    let new = c.no_row.result in
    let long = plan.long in
    let found = rw c.in_ok-k.ensures.ok_part at c.find.ensures.cases in
    let below : k < 64 = omega arith in
    let freed : new.state ≡ Free = ap (λ (r : Row). r.state) c.no_row.ensures.value in
    let ready = c.in_ok-set_up_with.ensures.set_up in
    record {
      long = length-set plan.rows k new ∙ long;
      numbers = λ two. plan.numbers (two_freed Namesakes plan.rows k new long below freed two);
      apart = λ two. plan.apart (two_freed Overlap plan.rows k new long below freed two);
      waiting = λ unset. never_both ready unset;
    }

pub returns-clause-value : goal.returns-clause-value
unfolding done
returns-clause-value g c =
    let plan = c.args.self.now in
    let n = c.args.number in
    let found = rw c.in_ok-k.ensures.ok_part at c.find.ensures.cases in
    sym (ap done (start-answered (model plan.setup plan.rows) (stored.setup c.in_ok-set_up_with.field-0.now) n (Some _) (ap setup c.in_ok-set_up_with.ensures.set_up)
    (start-found n plan.rows c.in_ok-k.k found.0 found.1 found.2)))

pub returns-clause-after : goal.returns-clause-after
returns-clause-after g c =
    let plan = c.args.self.now in
    let k = c.in_ok-k.k in
    let found = rw c.in_ok-k.ensures.ok_part at c.find.ensures.cases in
    flows_removed c.args.number plan.rows k c.no_row.result found.0 found.1 (ap (λ (r : Row). r.state) c.no_row.ensures.value)
    (only_row c.args.number plan.rows k plan.long plan.numbers found.0 found.1 found.2)
