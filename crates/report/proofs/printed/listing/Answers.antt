-- The listing by its cases: a refusal, or the lines of the answers.
use Rattle.std.proofs.Common.{string_bytes, ◌∙◌}
use Rattle.std.proofs.lemmas.Result.{IfOk-weaker}
use Rattle.report.specs.Inputs.{flow_sheet}
use Rattle.report.specs.Listings.{answer_lines}
use Rattle.report.proofs.Runs.{stop_line}
use Rattle.report.proofs.printed.listing.Goals as goal

pub returns-in-Ok : goal.returns-in-Ok
returns-in-Ok c =
    let s = c.args.octets.now in
    let ran = c.in-Ok.ensures.cases in
    record {
      made =
          IfOk-weaker c.format.result _ _
          (λ t e. e ∙ (λ i. answer_lines (ran.flows i) 0 (c.deref.ensures.value i)) ∙ ran.printed (λ w. answer_lines (flow_sheet s) 0))
          c.format.ensures.ok;
    }

pub returns-in-Err : goal.returns-in-Err
returns-in-Err c =
    let s = c.args.octets.now in
    record { made = stop_line string_bytes s c.in-Err.stop c.line.result c.in-Err.ensures.cases c.line.ensures.memory c.line.ensures.refused (λ w. answer_lines (flow_sheet s) 0) }
