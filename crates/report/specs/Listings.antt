-- The listing of an input: a line for each flow record, and last the flowspan; or one line for a refusal before them.
-- Assumes nothing.
use Rattle.std.specs.Prelude.{ℕ, suc, cond, List, [], ◌∷◌, ◌++◌, length, Ok, Err, codes, decimal, Result, nat_lt}
use Rattle.std.specs.Borrow.{Bor}
use Rattle.fault.specs.declared.kinds.PlanFault.{PlanFault}
use Rattle.fault.specs.Refusals.{refused}
use Rattle.sheet.specs.Flows.{read_flow}
use Rattle.sheet.specs.Sheets.{read_at}
use Rattle.plan.specs.declared.call.Reply.{Reply}
use Rattle.plan.specs.declared.call.Reply.TheVariants.{Done, Start, Span, Records}
use Rattle.plan.specs.Calls.{Wires, empty}
use Rattle.plan.specs.Steps.{replies}
use Rattle.report.specs.Inputs.{cycle, head, rate_codes, port_sheet, flow_sheet, calls}
use Rattle.report.specs.Lines.{line}

-- the number of record k of a sheet of flow records, and 0 where it is refused
abbrev pub number_of : List ℕ → ℕ → ℕ
number_of flows k = elim (read_at 21 read_flow k flows) [ Ok x ↦ x.number | Err _ ↦ 0 ]

-- a word and a number
abbrev pub one_number : List ℕ → ℕ → List ℕ
one_number word n = word ++ (codes " " ++ (decimal n ++ codes "\n"))

-- a word and two numbers
abbrev pub two_numbers : List ℕ → ℕ → ℕ → List ℕ
two_numbers word n m = word ++ (codes " " ++ (decimal n ++ (codes " " ++ (decimal m ++ codes "\n"))))

-- the line of a refusal before any offer
abbrev pub refused_line : PlanFault → List ℕ
refused_line e = one_number (codes "X") (refused e).number

-- the line of an answer: to an offer of a flow of number n its start or its refusal, and the flowspan; no other call is made
abbrev pub answer_line : ℕ → Result Reply PlanFault → List ℕ
answer_line n (Ok (Start s)) = two_numbers (codes "F") n s
answer_line n (Err e) = two_numbers (codes "R") n (refused e).number
answer_line n (Ok (Span s)) = one_number (codes "S") s
answer_line n (Ok Done) = []
answer_line n (Ok (Records m)) = []

-- the lines of answers, the first of them to the offer of record k
abbrev pub answer_lines : List ℕ → ℕ → List (Result Reply PlanFault) → List ℕ
answer_lines flows k [] = []
answer_lines flows k (a ∷ rest) = answer_line (number_of flows k) a ++ answer_lines flows (suc k) rest

-- a reference to octets; where they lie does not matter
abbrev pub at : List ℕ → Bor (List ℕ)
at s = record { ref_ptr = (0, 0); now = s }

-- the answers to the calls of an input on a plan made on a line
abbrev pub answers : Wires → List ℕ → List (Result Reply PlanFault)
answers w s = replies w empty 0 (calls (cycle s) (at (port_sheet s)) (at (flow_sheet s)))

-- what is printed of the answers to a set-up and the calls after it: its refusal, or a text of the answers after it
abbrev pub set_up : (List (Result Reply PlanFault) → List ℕ) → List (Result Reply PlanFault) → List ℕ
set_up text [] = []
set_up text (Err e ∷ rest) = refused_line e
set_up text (Ok _ ∷ rest) = text rest

-- what is printed of an input: refusal 1 where it is too short, the refusal of the filling or of the set-up, or a text for its line and the answers after the set-up's
abbrev pub printed : (Wires → List (Result Reply PlanFault) → List ℕ) → List ℕ → List ℕ
printed text s = cond (nat_lt (length s) (head s)) (codes "X 1\n") (elim (line (rate_codes s)) [ Err e ↦ refused_line e | Ok w ↦ set_up (text w) (answers w s) ])

-- the listing: a refusal before any offer, or the answers to the offers and the flowspan
abbrev pub listing : List ℕ → List ℕ
listing s = printed (λ w. answer_lines (flow_sheet s) 0) s
