-- The gate lists by their cases: a refusal, or the list of each port.
use Rattle.std.proofs.Common.{ℕ, List, Result, string_bytes, ◌∙◌}
use Rattle.std.proofs.lemmas.Result.{IfOk-weaker}
use Rattle.fault.specs.declared.kinds.PlanFault.{PlanFault}
use Rattle.plan.specs.declared.call.Reply.{Reply}
use Rattle.plan.specs.Calls.{Wires, empty}
use Rattle.plan.specs.Models.{model}
use Rattle.plan.specs.Steps.{after}
use Rattle.report.specs.GateLists.{port_texts}
use Rattle.report.specs.Inputs.{cycle, port_sheet, flow_sheet, calls}
use Rattle.report.specs.Listings.{at}
use Rattle.report.specs.Lines.{wired}
use Rattle.report.proofs.GateLists.{port-texts_alike}
use Rattle.report.proofs.Runs.{stop_line}
use Rattle.report.proofs.printed.gate_lists.Goals as goal

-- what is printed on a line
abbrev lists : List ℕ → Wires → List (Result Reply PlanFault) → List ℕ
lists s w told = port_texts w (after w empty (calls (cycle s) (at (port_sheet s)) (at (flow_sheet s)))) w.meaning.ports 0

pub returns-in-Ok : goal.returns-in-Ok
returns-in-Ok c =
    let s = c.args.octets.now in
    let run = c.in-Ok.run' in
    let ran = c.in-Ok.ensures.cases in
    let w = wired run.input.line in
    let m = model run.done.plan.setup run.done.plan.rows in
    record {
      made =
          IfOk-weaker c.format.result _ _
          (λ t e. e ∙ (λ i. port_texts (wired (ran.line i)) m (c.ports.ensures.value i) 0) ∙ port-texts_alike w m _ ran.holds w.meaning.ports 0 ∙ ran.printed (lists s))
          c.format.ensures.ok;
    }

pub returns-in-Err : goal.returns-in-Err
returns-in-Err c =
    let s = c.args.octets.now in
    record { made = stop_line string_bytes s c.in-Err.stop c.line.result c.in-Err.ensures.cases c.line.ensures.memory c.line.ensures.refused (lists s) }
