-- Readings and writings undo each other, for records and for whole sheets of a kind.
-- Assumes nothing.
use Rattle.std.specs.Prelude.{◌≡◌, ℕ, List, Ok, Result}
use Rattle.fault.specs.declared.kinds.RecordFault.{RecordFault}
use Rattle.sheet.specs.Fields.{Octets}
use Rattle.sheet.specs.Sheets.{read_sheet, written_sheet, judge_from}

-- what is promised of a kind of z octets with its reading, its judging and its writing
pub record Undone {R : Type 0} (z : ℕ) (reading : ℕ → List ℕ → Result R RecordFault) (judging : ℕ → R → Result (Unit {0}) RecordFault) (written : R → List ℕ) : Type 0 where
  -- two different records never share octets
  pub apart : (x y : R) (j k : ℕ) → judging j x ≡ Ok tt → judging k y ≡ Ok tt → written x ≡ written y → x ≡ y
  -- a sheet written from a list of records reads back as that list
  pub readback : (xs : List R) → judge_from judging 0 xs ≡ Ok tt → read_sheet z reading (written_sheet written xs) ≡ Ok xs
  -- a sheet whose records are all accepted is the sheet written from what was read
  pub rewritten : (s : List ℕ) (xs : List R) → Octets s → read_sheet z reading s ≡ Ok xs → written_sheet written xs ≡ s
  -- and what was read may be written
  pub writable : (s : List ℕ) (xs : List R) → read_sheet z reading s ≡ Ok xs → judge_from judging 0 xs ≡ Ok tt
