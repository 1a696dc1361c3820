-- The gate lists of an input: for each port a heading, then each gate record readably and as octets; or one line for a refusal before them.
-- Assumes nothing.
use Rattle.std.specs.Prelude.{ℕ, zero, suc, ◌+◌, ◌*◌, ◌/◌, ◌%◌, cond, List, [], ◌∷◌, ◌++◌, take, drop, Ok, Err, codes, decimal, nat_lt, slice_index}
use Rattle.sheet.specs.Fields.{number}
use Rattle.plan.specs.Calls.{Wires, Model, empty}
use Rattle.plan.specs.GateOctets.{gate_octets}
use Rattle.plan.specs.Steps.{list_of, gates_answer, after}
use Rattle.report.specs.Inputs.{cycle, port_sheet, flow_sheet, calls}
use Rattle.report.specs.Listings.{refused_line, at, printed}

-- a hexadecimal digit
abbrev pub digit : ℕ → ℕ
digit n = cond (nat_lt n 10) (48 + n) (55 + n)

-- an octet as two hexadecimal digits
abbrev pub hex : ℕ → List ℕ
hex n = digit (n / 16) ∷ digit (n % 16) ∷ []

-- octets in hexadecimal, each behind a space
abbrev pub hex_octets : List ℕ → List ℕ
hex_octets [] = []
hex_octets (n ∷ s) = codes " " ++ (hex n ++ hex_octets s)

-- the line of a gate record's five octets: the state octet, the duration, and all octets
abbrev pub record_line : List ℕ → List ℕ
record_line s = codes "  " ++ (hex (slice_index s 0) ++ (codes " for " ++ (decimal (number (drop 1 s)) ++ (codes " ns:" ++ (hex_octets s ++ codes "\n")))))

-- the lines of n gate records, from record k on
abbrev pub record_lines : List ℕ → ℕ → ℕ → List ℕ
record_lines s zero k = []
record_lines s (suc n) k = record_line (take 5 (drop (k * 5) s)) ++ record_lines s n (suc k)

-- the gate list of a port: its heading and its records
abbrev pub list_text : ℕ → ℕ → List ℕ → List ℕ
list_text q n s = codes "port " ++ (decimal q ++ (codes ": " ++ (decimal n ++ (codes " gate records\n" ++ record_lines s n 0))))

-- the octets of the gate list of a port, where it has one
abbrev pub list_octets : Wires → Model → ℕ → List ℕ
list_octets w m q = elim (list_of w m q) [ Err _ ↦ [] | Ok es ↦ gate_octets es ]

-- what is printed for a port, with a buffer of 15,365 octets
abbrev pub port_text : Wires → Model → ℕ → List ℕ
port_text w m q = elim (gates_answer w m q 15365) [ Err e ↦ refused_line e | Ok n ↦ list_text q n (list_octets w m q) ]

-- what is printed for n ports, from port q on
abbrev pub port_texts : Wires → Model → ℕ → ℕ → List ℕ
port_texts w m zero q = []
port_texts w m (suc n) q = port_text w m q ++ port_texts w m n (suc q)

-- the gate lists: a refusal before any offer, or the list of each port of the plan that the calls of the input leave
abbrev pub gate_lists : List ℕ → List ℕ
gate_lists s = printed (λ w _. port_texts w (after w empty (calls (cycle s) (at (port_sheet s)) (at (flow_sheet s)))) w.meaning.ports 0) s
