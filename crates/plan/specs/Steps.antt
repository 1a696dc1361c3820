-- A list of calls: what each answers, and what the plan holds and the buffer has after them.
-- Assumes nothing.
use Rattle.std.specs.Prelude.{ℕ, ◌*◌, cond, List, [], ◌∷◌, ◌++◌, length, drop, Some, None, Ok, Err, Result, nat_le, nat_lt}
use Rattle.fault.specs.declared.kinds.PlanFault.{PlanFault}
use Rattle.fault.specs.declared.kinds.PlanFault.TheVariants.{NotSetUp, NoPort, Buffer}
use Rattle.sheet.specs.Flows.{read_flow}
use Rattle.sheet.specs.Sheets.{read_at}
use Rattle.network.specs.Flows.{Flow}
use Rattle.network.specs.Gates.{Gate}
use Rattle.planning.specs.Gates.{gates}
use Rattle.planning.specs.Offers.{flow}
use Rattle.planning.specs.Setups.{network}
use Rattle.plan.specs.declared.call.Call.{Call}
use Rattle.plan.specs.declared.call.Call.TheVariants.{SetUp, Offer, Withdraw, StartOf, Flowspan, GateList}
use Rattle.plan.specs.declared.call.Reply.{Reply}
use Rattle.plan.specs.declared.call.Reply.TheVariants.{Done, Start, Span, Records}
use Rattle.plan.specs.GateOctets.{gate_octets}
use Rattle.plan.specs.Calls.{Wires, Model, offered, set_up_answer, offer_answer, withdraw_answer, left, start_answer, flowspan_answer}

-- the gate list that is asked of a port, or why there is none
abbrev pub list_of : Wires → Model → ℕ → Result (List Gate) PlanFault
list_of w m q = elim m.setup [ None ↦ Err NotSetUp | Some c ↦ cond (nat_lt q w.meaning.ports) (Ok (gates (network w.meaning c) m.held q)) (Err NoPort) ]

-- the answer to the question for a gate list with a buffer of n octets: the number of its records, of 5 octets each
abbrev pub gates_answer : Wires → Model → ℕ → ℕ → Result ℕ PlanFault
gates_answer w m q n = elim (list_of w m q) [ Err e ↦ Err e | Ok es ↦ cond (nat_le (5 * length es) n) (Ok (length es)) (Err Buffer) ]

-- an answer that is a value
abbrev pub told : {A : Type 0} → (A → Reply) → Result A PlanFault → Result Reply PlanFault
told reply (Ok x) = Ok (reply x)
told reply (Err e) = Err e

-- the answer to a call, with a buffer of n octets
abbrev pub reply : Wires → Model → ℕ → Call → Result Reply PlanFault
reply w m n (SetUp C sheet) = told (λ _. Done) (set_up_answer w m C sheet.now)
reply w m n (Offer sheet k) = told Start (offer_answer w m sheet.now k)
reply w m n (Withdraw i) = told (λ _. Done) (withdraw_answer m i)
reply w m n (StartOf i) = told Start (start_answer m i)
reply w m n Flowspan = told Span (flowspan_answer w m)
reply w m n (GateList q) = told Records (gates_answer w m q n)

-- the flows after an offer of record k of a sheet that was answered with start s
abbrev pub added : Wires → Model → List ℕ → ℕ → ℕ → List Flow
added w m sheet k s = elim m.setup [
  | None ↦ m.held
  | Some c ↦ elim (read_at 21 read_flow k sheet) [ Err _ ↦ m.held | Ok x ↦ flow (network w.meaning c) (offered x) s ∷ m.held ]
]

-- what the plan holds after a call; a refused call and a question leave it as it was
abbrev pub next : Wires → Model → Call → Model
next w m (SetUp C sheet) = elim (set_up_answer w m C sheet.now) [ Ok c ↦ record { setup = Some c; held = m.held } | Err _ ↦ m ]
next w m (Offer sheet k) = elim (offer_answer w m sheet.now k) [ Ok s ↦ record { setup = m.setup; held = added w m sheet.now k s } | Err _ ↦ m ]
next w m (Withdraw i) = elim (withdraw_answer m i) [ Ok _ ↦ record { setup = m.setup; held = left i m.held } | Err _ ↦ m ]
next w m (StartOf i) = m
next w m Flowspan = m
next w m (GateList q) = m

-- what a buffer has after the question for a gate list: the octets of the list at its front where it was answered, and else what it had
abbrev pub list_written : Wires → Model → List ℕ → ℕ → List ℕ
list_written w m b q = elim (list_of w m q) [ Err _ ↦ b | Ok es ↦ cond (nat_le (5 * length es) (length b)) (gate_octets es ++ drop (5 * length es) b) b ]

-- what the buffer has after a call
abbrev pub written : Wires → Model → List ℕ → Call → List ℕ
written w m b (SetUp C sheet) = b
written w m b (Offer sheet k) = b
written w m b (Withdraw i) = b
written w m b (StartOf i) = b
written w m b Flowspan = b
written w m b (GateList q) = list_written w m b q

-- what the plan holds after a list of calls
abbrev pub after : Wires → Model → List Call → Model
after w m [] = m
after w m (c ∷ cs) = after w (next w m c) cs

-- the answers to a list of calls, one by one
abbrev pub replies : Wires → Model → ℕ → List Call → List (Result Reply PlanFault)
replies w m n [] = []
replies w m n (c ∷ cs) = reply w m n c ∷ replies w (next w m c) n cs

-- what the buffer has after a list of calls
abbrev pub buffered : Wires → Model → List ℕ → List Call → List ℕ
buffered w m b [] = b
buffered w m b (c ∷ cs) = buffered w (next w m c) (written w m b c) cs
