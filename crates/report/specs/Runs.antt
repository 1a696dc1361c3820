-- The calls of an input performed on its line, or why there was none.
-- Assumes nothing.
use Rattle.std.specs.Prelude.{◌≡◌, ℕ, cond, List, length, Ok, Err, Result, nat_lt}
use Rattle.fault.specs.declared.kinds.PlanFault.{PlanFault}
use Rattle.fault.specs.declared.kinds.PlanFault.TheVariants.{Record}
use Rattle.fault.specs.declared.kinds.RecordFault.TheVariants.{Sheet}
use Rattle.fault.specs.declared.kinds.SheetFault.TheVariants.{Unfinished}
use Rattle.plan.specs.declared.call.Reply.{Reply}
use Rattle.plan.specs.Alike.{Alike}
use Rattle.plan.specs.Calls.{Wires, empty}
use Rattle.plan.specs.Models.{model}
use Rattle.plan.specs.Steps.{after}
use Rattle.report.specs.declared.input.Input.{Input}
use Rattle.report.specs.declared.run.Run.{Run}
use Rattle.report.specs.declared.run.Stop.{Stop}
use Rattle.report.specs.declared.run.Stop.TheVariants.{NoMemory, Refused}
use Rattle.report.specs.Inputs.{cycle, head, rate_codes, port_sheet, flow_sheet, calls}
use Rattle.report.specs.Lines.{wired, line}
use Rattle.report.specs.Listings.{refused_line, at, printed}

-- the line of an input; one that is too short is an unfinished record 0
abbrev pub input_line : List ℕ → Result Wires PlanFault
input_line s = cond (nat_lt (length s) (head s)) (Err (Record (Sheet (Unfinished 0)))) (line (rate_codes s))

-- the parts of an input that has a line
pub record Parts (s : List ℕ) (x : Input) : Type 0 where
  pub cycle : x.cycle ≡ cycle s
  pub line : input_line s ≡ Ok (wired x.line)
  pub ports : x.ports.now ≡ port_sheet s
  pub flows : x.flows.now ≡ flow_sheet s

-- a run of the calls of an input: its plan holds what they leave, and a text for its line and its answers is what is printed
pub record Ran (s : List ℕ) (run : Run) : Type 0 where
  pub flows : run.input.flows.now ≡ flow_sheet s
  pub line : run.done.plan.line ≡ run.input.line
  pub holds :
      Alike (model run.done.plan.setup run.done.plan.rows)
      (after (wired run.input.line) empty (calls (cycle s) (at (port_sheet s)) (at (flow_sheet s))))
  pub printed : (text : Wires → List (Result Reply PlanFault) → List ℕ) → text (wired run.input.line) run.done.answers.items ≡ printed text s

-- why there is no run; the line of a refusal is what is printed, whatever the text
abbrev pub Stopped : List ℕ → Stop → Type 0
Stopped s NoMemory = Unit {0}
Stopped s (Refused e) = (text : Wires → List (Result Reply PlanFault) → List ℕ) → refused_line e ≡ printed text s
