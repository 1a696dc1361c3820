-- Worked figures: of the wire times, and of a plan on two ports at 1,000 Mb/s.
-- Assumes nothing.
use Rattle.std.specs.Prelude.{◌≡◌, ℕ, ◌≤◌, List, [], ◌∷◌, ◌++◌, length, take, replicate, Some, None, Ok, Err, codes, Option, Result}
use Rattle.fault.specs.declared.kinds.PlanFault.{PlanFault}
use Rattle.fault.specs.declared.kinds.PlanFault.TheVariants.{Deadline, Taken}
use Rattle.fault.specs.Refusals.{refused}
use Rattle.line.specs.Figures.{LineFigures}
use Rattle.sheet.specs.declared.flow.FlowRecord.{FlowRecord}
use Rattle.sheet.specs.declared.port.PortRecord.{PortRecord}
use Rattle.sheet.specs.Fields.{octets}
use Rattle.sheet.specs.Flows.{written_flow}
use Rattle.sheet.specs.Ports.{written_port}
use Rattle.sheet.specs.Sheets.{written_sheet}
use Rattle.network.specs.Gates.{Gate}
use Rattle.plan.specs.declared.call.Call.TheVariants.{GateList}
use Rattle.plan.specs.Calls.{Wires, Model, empty, offer_answer, start_answer}
use Rattle.plan.specs.Steps.{list_of, after, buffered}
use Rattle.report.specs.Inputs.{cycle, port_sheet, flow_sheet, calls}
use Rattle.report.specs.Lines.{coded}
use Rattle.report.specs.Listings.{at, listing}

-- two ports of rate code 3
abbrev pub two_ports : Wires
two_ports = coded (3 ∷ 3 ∷ [])

-- the record of each: d = 100, p = 1,000, B = 1,522
abbrev pub port_record : PortRecord
port_record = record { delay = 100; processing = 1_000; best_effort = 1_522 }

-- the record of a flow of number n, length l, period T, deadline D and start s over a route
abbrev pub flow_record : ℕ → ℕ → ℕ → ℕ → Option ℕ → List ℕ → FlowRecord
flow_record n l T D s route =
    record { number = n; length = l; period = T; deadline = D; start = s; hops = length route; ports = take 8 (route ++ replicate 8 0) }

-- the input of a cycle C and flow records on the two ports
abbrev pub input_of : ℕ → List FlowRecord → List ℕ
input_of C flows = octets 4 C ++ (2 ∷ 3 ∷ 3 ∷ (written_sheet written_port (port_record ∷ port_record ∷ []) ++ written_sheet written_flow flows))

-- what the plan holds after the calls of an input
abbrev pub plan_after : List ℕ → Model
plan_after s = after two_ports empty (calls (cycle s) (at (port_sheet s)) (at (flow_sheet s)))

-- what a plan answers to the offer of a flow record
abbrev pub answered : Model → FlowRecord → Result ℕ PlanFault
answered m x = offer_answer two_ports m (written_flow x) 0

-- an answer is refusal e, whose number is n
abbrev pub IsRefusal : Result ℕ PlanFault → PlanFault → ℕ → Type 0
IsRefusal r e n = (r ≡ Err e) × ((refused e).number ≡ n)

-- a flow over both ports, with deadline D
abbrev pub flow_7 : ℕ → FlowRecord
flow_7 D = flow_record 7 100 500_000 D None (0 ∷ 1 ∷ [])

-- one on port 1
abbrev pub flow_9 : FlowRecord
flow_9 = flow_record 9 1_000 1_000_000 20_000 None (1 ∷ [])

-- one on port 0, whose period does not divide the cycle
abbrev pub flow_11 : FlowRecord
flow_11 = flow_record 11 64 300_000 20_000 None (0 ∷ [])

-- the input of the worked case
abbrev pub case_input : List ℕ
case_input = input_of 1_000_000 (flow_7 20_000 ∷ flow_9 ∷ flow_11 ∷ [])

-- its listing
abbrev pub case_listing : List ℕ
case_listing = codes "F 7 0\nF 9 2828\nR 11 9\nS 10992\n"

-- a gate record: a state and its duration
abbrev pub gate : ℕ → ℕ → Gate
gate s n = record { state = s; duration = n }

-- the gate list of port 1 after its calls
abbrev pub case_gates : List Gate
case_gates =
    gate 0x00 1_964
    ∷ gate 0x80 8_928
    ∷ gate 0x7f 478_832
    ∷ gate 0x00 12_240
    ∷ gate 0x80 864
    ∷ gate 0x7f 486_896
    ∷ gate 0x00 10_276
    ∷ []

-- the octets of the first two of its records
abbrev pub case_octets : List ℕ
case_octets = 0x00 ∷ 0x00 ∷ 0x00 ∷ 0x07 ∷ 0xac ∷ 0x80 ∷ 0x00 ∷ 0x00 ∷ 0x22 ∷ 0xe0 ∷ []

-- a further flow on port 1, with the chosen start s
abbrev pub flow_13 : ℕ → FlowRecord
flow_13 s = flow_record 13 100 500_000 20_000 (Some s) (1 ∷ [])

-- a flow on port 0, with number n, period T and the chosen start s
abbrev pub repeating : ℕ → ℕ → ℕ → FlowRecord
repeating n T s = flow_record n 100 T 20_000 (Some s) (0 ∷ [])

-- in a cycle of 1,200,000 two flows, of periods 400,000 and 300,000 and starts 0 and 200,000, meet in frame 2 of each alone, at 800,000: the second is refused
pub record AllRepetitions : Type 0 where
  pub wire_time : two_ports.meaning.time 0 100 ≡ 864
  pub held : start_answer (plan_after (input_of 1_200_000 (repeating 1 400_000 0 ∷ []))) 1 ≡ Ok 0
  pub refused : IsRefusal (answered (plan_after (input_of 1_200_000 (repeating 1 400_000 0 ∷ []))) (repeating 2 300_000 200_000)) Taken 15

-- the figures
pub record WorkedFigures : Type 0 where
  pub lines : LineFigures
  pub output : listing case_input ≡ case_listing
  pub gates_of_port_1 : list_of two_ports (plan_after case_input) 1 ≡ Ok case_gates
  pub octets_of_port_1 : (buffer : List ℕ) → 35 ≤ length buffer → take 10 (buffered two_ports (plan_after case_input) buffer (GateList 1 ∷ [])) ≡ case_octets
  pub fits_at_10892 : answered (plan_after case_input) (flow_13 10_892) ≡ Ok 10_892
  pub refused_at_10891 : IsRefusal (answered (plan_after case_input) (flow_13 10_891)) Taken 15
  pub deadline_2927 : IsRefusal (answered (plan_after (input_of 1_000_000 [])) (flow_7 2_927)) Deadline 13
  pub all_repetitions : AllRepetitions
