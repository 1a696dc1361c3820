-- A sheet: records of one kind back to back. A kind is given by z, the octets of a record, by its reading, by its judging and by its writing.
-- Assumes nothing.
use Rattle.std.specs.Prelude.{ℕ, zero, suc, ◌+◌, ◌*◌, ◌/◌, ◌%◌, cond, List, [], ◌∷◌, ◌++◌, length, take, drop, Ok, Err, Result, ◌==◌, nat_le}
use Rattle.fault.specs.declared.kinds.RecordFault.{RecordFault}
use Rattle.fault.specs.declared.kinds.RecordFault.TheVariants.{Sheet}
use Rattle.fault.specs.declared.kinds.SheetFault.{SheetFault}
use Rattle.fault.specs.declared.kinds.SheetFault.TheVariants.{Unfinished}

-- the octets of record k, which has to lie whole in the sheet
abbrev pub octets_at : ℕ → ℕ → List ℕ → Result (List ℕ) SheetFault
octets_at z k s = cond (nat_le (k * z + z) (length s)) (Ok (take z (drop (k * z) s))) (Err (Unfinished k))

-- what a reading makes of them
abbrev pub read_by : {R : Type 0} → (List ℕ → Result R RecordFault) → Result (List ℕ) SheetFault → Result R RecordFault
read_by reading (Ok s) = reading s
read_by reading (Err f) = Err (Sheet f)

-- record k of a sheet
abbrev pub read_at : {R : Type 0} → ℕ → (ℕ → List ℕ → Result R RecordFault) → ℕ → List ℕ → Result R RecordFault
read_at z reading k s = read_by (reading k) (octets_at z k s)

-- the count of the records of a sheet, which has to be whole records
abbrev pub record_count : ℕ → List ℕ → Result ℕ SheetFault
record_count z s = cond (length s % z == 0) (Ok (length s / z)) (Err (Unfinished (length s / z)))

-- one record before others: the first fault decides
abbrev pub before : {R : Type 0} → Result R RecordFault → Result (List R) RecordFault → Result (List R) RecordFault
before (Ok x) (Ok xs) = Ok (x ∷ xs)
before (Ok x) (Err f) = Err f
before (Err f) rest = Err f

-- n records in order, from record k on
abbrev pub read_from : {R : Type 0} → (ℕ → Result R RecordFault) → ℕ → ℕ → Result (List R) RecordFault
read_from at zero k = Ok []
read_from at (suc n) k = before (at k) (read_from at n (suc k))

-- that many records of a sheet, in order
abbrev pub read_count : {R : Type 0} → ℕ → (ℕ → List ℕ → Result R RecordFault) → List ℕ → Result ℕ SheetFault → Result (List R) RecordFault
read_count z reading s (Ok n) = read_from (λ k. read_at z reading k s) n 0
read_count z reading s (Err f) = Err (Sheet f)

-- all records of a sheet
abbrev pub read_sheet : {R : Type 0} → ℕ → (ℕ → List ℕ → Result R RecordFault) → List ℕ → Result (List R) RecordFault
read_sheet z reading s = read_count z reading s (record_count z s)

-- the sheet written from a list of records
abbrev pub written_sheet : {R : Type 0} → (R → List ℕ) → List R → List ℕ
written_sheet written [] = []
written_sheet written (x ∷ xs) = written x ++ written_sheet written xs

-- one judgment before another: the first fault decides
abbrev pub and_then : Result (Unit {0}) RecordFault → Result (Unit {0}) RecordFault → Result (Unit {0}) RecordFault
and_then (Ok _) rest = rest
and_then (Err f) rest = Err f

-- whether a list of records may be written, from record k on
abbrev pub judge_from : {R : Type 0} → (ℕ → R → Result (Unit {0}) RecordFault) → ℕ → List R → Result (Unit {0}) RecordFault
judge_from judging k [] = Ok tt
judge_from judging k (x ∷ xs) = and_then (judging k x) (judge_from judging (suc k) xs)
