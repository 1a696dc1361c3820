-- A refusal of the line or of the set-up is printed, and else a text of the answers after the set-up's.
use Rattle.std.proofs.Common.{◌≡◌, List, ◌∷◌, Result, sym, subst, ap, ◌∙◌, vec_items, rules}
use Rattle.std.proofs.lemmas.Result.{err_from_is_err_and}
use Rattle.plan.specs.declared.call.Call.{Call}
use Rattle.plan.specs.declared.call.Reply.{Reply}
use Rattle.fault.specs.declared.kinds.PlanFault.{PlanFault}
use Rattle.plan.specs.Alike.{Alike}
use Rattle.plan.specs.Calls.{Model, empty}
use Rattle.plan.specs.Models.{model}
use Rattle.plan.specs.Steps.{after, replies}
use Rattle.report.specs.Inputs.{calls}
use Rattle.report.specs.Listings.{answers}
use Rattle.report.specs.Lines.{wired}
use Rattle.report.proofs.Listings.{answers_are, after_is}
use Rattle.report.proofs.Runs.{stopped_without-line, first-and-rest, printed-after}
use Rattle.report.proofs.run.Run.new.Goals as goal

pub returns-in_err-input : goal.returns-in_err-input
returns-in_err-input c =
    let p = err_from_is_err_and c.from_residual.result c.from_residual.ensures.1 in
    rw (p.1, p.2) (record { cases = stopped_without-line c.args.octets.now c.in_err-input.field-0.0 c.in_err-input.ensures })

pub returns : goal.returns
returns c =
    let s = c.args.octets.now in
    let x = c.in_ok-input.input in
    let parts = c.in_ok-input.ensures in
    let w = wired x.line in
    let told = c.in_ok-done.ensures in
    let called : c.deref.result.now ≡ calls x.cycle x.ports x.flows = c.deref.ensures.value ∙ c.in_ok-calls.ensures.made in
    let answered : vec_items c.in_ok-done.done.answers ≡ answers w s = told.answers ∙ ap (replies w empty 0) called ∙ answers_are s x parts w in
    let split : vec_items c.in_ok-done.done.answers ≡ c.remove.result ∷ vec_items c.remove.new.self = first-and-rest _ _ _ (search rules) c.remove.ensures.value c.remove.ensures.by_index.2 in
    record {
      cases =
          record {
            flows = parts.flows;
            line = told.line;
            holds =
                subst (λ (m : Model). Alike (model c.in_ok-done.done.plan.setup c.in_ok-done.done.plan.rows) m) (after_is s x parts w)
                (subst (λ (cs : List Call). Alike (model c.in_ok-done.done.plan.setup c.in_ok-done.done.plan.rows) (after w empty cs)) called told.holds);
            printed = printed-after s w parts.line c.in_ok-remove.field-0 (vec_items c.remove.new.self) (sym answered ∙ split ∙ ap (λ (r : Result Reply PlanFault). r ∷ vec_items c.remove.new.self) c.in_ok-remove.was);
          };
    }
