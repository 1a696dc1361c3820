-- The listing of a sheet: its records in order, one a line, and last the first fault.
-- Assumes nothing.
use Rattle.std.specs.Prelude.{ℕ, zero, suc, ◌/◌, List, [], ◌∷◌, ◌++◌, length, Option, Some, None, Ok, Err, Result}
use Rattle.fault.specs.declared.kinds.RecordFault.{RecordFault}
use Rattle.fault.specs.declared.kinds.RecordFault.TheVariants.{Sheet}
use Rattle.fault.specs.declared.kinds.SheetFault.{SheetFault}
use Rattle.sheet.specs.Flows.{read_flow}
use Rattle.sheet.specs.Gates.{read_gate}
use Rattle.sheet.specs.Ports.{read_port}
use Rattle.sheet.specs.Sheets.{read_at, record_count}
use Rattle.sheet.specs.Texts.{flow_text, gate_text, port_text}
use Rattle.records.specs.Sentences.{fault_text}
use Rattle.records.specs.declared.kind.Kind.{Kind}
use Rattle.records.specs.declared.kind.Kind.TheVariants.{Port, Flow, Gate}

-- a text and the end of its line
abbrev pub line : List ℕ → List ℕ
line t = t ++ (10 ∷ [])

-- the line of a fault, and none where there is no fault
abbrev pub last_line : Option RecordFault → List ℕ
last_line None = []
last_line (Some f) = line (fault_text f)

-- what octets behind the last whole record print
abbrev pub leftover : Result ℕ SheetFault → List ℕ
leftover (Ok n) = []
leftover (Err f) = line (fault_text (Sheet f))

-- one record, then the rest; a fault is the last line
abbrev pub one_before : {R : Type 0} → (R → List ℕ) → Result R RecordFault → List ℕ → List ℕ
one_before text (Ok x) rest = line (text x) ++ rest
one_before text (Err f) rest = line (fault_text f)

-- n records from record k on, then what is left over
abbrev pub lines_from : {R : Type 0} → (R → List ℕ) → (ℕ → Result R RecordFault) → List ℕ → ℕ → ℕ → List ℕ
lines_from text at left zero k = left
lines_from text at left (suc n) k = one_before text (at k) (lines_from text at left n (suc k))

-- a whole sheet, of records of z octets
abbrev pub listing : {R : Type 0} → ℕ → (ℕ → List ℕ → Result R RecordFault) → (R → List ℕ) → List ℕ → List ℕ
listing z reading text s = lines_from text (λ k. read_at z reading k s) (leftover (record_count z s)) (length s / z) 0

-- a sheet of a kind
abbrev pub listing_of : Kind → List ℕ → List ℕ
listing_of Port s = listing 8 read_port port_text s
listing_of Flow s = listing 21 read_flow flow_text s
listing_of Gate s = listing 5 read_gate gate_text s
