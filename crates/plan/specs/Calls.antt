-- What each call of a plan answers and leaves: the refusals in their order, and the state after it.
-- Assumes nothing.
use Rattle.std.specs.Prelude.{ℕ, true, false, cond, not, ◌||◌, ltb, List, [], ◌∷◌, map, length, take, Some, None, Ok, Err, Option, Result, ◌==◌, nat_eq, nat_lt}
use Rattle.fault.specs.declared.kinds.PlanFault.{PlanFault}
use Rattle.fault.specs.declared.kinds.PlanFault.TheVariants.{Record, SetUpTwice, NotSetUp, Cycle, PortCount, BestEffort, NotHeld}
use Rattle.line.specs.Meaning.{Meaning}
use Rattle.sheet.specs.declared.flow.FlowRecord.{FlowRecord}
use Rattle.sheet.specs.declared.port.PortRecord.{PortRecord}
use Rattle.sheet.specs.Flows.{read_flow}
use Rattle.sheet.specs.Ports.{read_port}
use Rattle.sheet.specs.Sheets.{read_at, read_sheet}
use Rattle.network.specs.Flows.{Flow}
use Rattle.planning.specs.Lists.{any, without}
use Rattle.planning.specs.Offers.{Offered, answer, flowspan}
use Rattle.planning.specs.Setups.{Port, Setup, network}

-- a line, as the calls of a plan see it: the length of its largest frame, and what it means
pub record Wires : Type 0 where
  pub most : ℕ
  pub meaning : Meaning

-- what a plan holds: its set-up, once it has one, and its flows, the newest first
pub record Model : Type 0 where
  pub setup : Option Setup
  pub held : List Flow

-- a new plan
abbrev pub empty : Model
empty = record { setup = None; held = [] }

-- the port of a port record
abbrev pub port : PortRecord → Port
port x = record { delay = x.delay; processing = x.processing; best = x.best_effort }

-- the flow that a flow record offers
abbrev pub offered : FlowRecord → Offered
offered x = record {
  number = x.number;
  length = x.length;
  period = x.period;
  deadline = x.deadline;
  chosen = x.start;
  route = take x.hops x.ports;
}

-- the set-up of a cycle and port records, or the first refusal
abbrev pub set_up : Wires → Option Setup → ℕ → List PortRecord → Result Setup PlanFault
set_up w (Some _) C xs = Err SetUpTwice
set_up w None C xs =
    cond (nat_lt C 1000 || nat_lt 1000000000 C) (Err Cycle)
    (cond (not (length xs == w.meaning.ports)) (Err PortCount)
    (cond (any (λ x. ltb w.most x.best_effort) xs) (Err BestEffort)
    (Ok (record { cycle = C; ports = map port xs }))))

-- the answer to a set-up with a cycle and a sheet of port records
abbrev pub set_up_answer : Wires → Model → ℕ → List ℕ → Result Setup PlanFault
set_up_answer w m C sheet = elim (read_sheet 8 read_port sheet) [ Err e ↦ Err (Record e) | Ok xs ↦ set_up w m.setup C xs ]

-- the answer to an offer of a flow record: its start
abbrev pub offer : Wires → Model → FlowRecord → Result ℕ PlanFault
offer w m x = elim m.setup [ None ↦ Err NotSetUp | Some c ↦ answer (network w.meaning c) w.most m.held (offered x) ]

-- the answer to an offer of record k of a sheet
abbrev pub offer_answer : Wires → Model → List ℕ → ℕ → Result ℕ PlanFault
offer_answer w m sheet k = elim (read_at 21 read_flow k sheet) [ Err e ↦ Err (Record e) | Ok x ↦ offer w m x ]

-- the start of the flow of a number, where one is held
abbrev pub start_of : ℕ → List Flow → Option ℕ
start_of n [] = None
start_of n (f ∷ fs) = elim (f.number == n) [ true ↦ Some f.start | false ↦ start_of n fs ]

-- the answer to the question for a start
abbrev pub start_answer : Model → ℕ → Result ℕ PlanFault
start_answer m n = elim m.setup [ None ↦ Err NotSetUp | Some c ↦ elim (start_of n m.held) [ None ↦ Err NotHeld | Some s ↦ Ok s ] ]

-- the answer to a withdrawal
abbrev pub withdraw_answer : Model → ℕ → Result (Unit {0}) PlanFault
withdraw_answer m n = elim (start_answer m n) [ Ok s ↦ Ok tt | Err e ↦ Err e ]

-- the flows that are left after the withdrawal of a number
abbrev pub left : ℕ → List Flow → List Flow
left n fs = without (λ f. nat_eq f.number n) fs

-- the answer to the question for the flowspan
abbrev pub flowspan_answer : Wires → Model → Result ℕ PlanFault
flowspan_answer w m = elim m.setup [ None ↦ Err NotSetUp | Some c ↦ Ok (flowspan (network w.meaning c) m.held) ]
