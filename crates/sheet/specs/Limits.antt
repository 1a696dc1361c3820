-- How a record is judged: every field that must be zero first, then every field with limits, each in the order of its bits.
-- Assumes nothing.
use Rattle.std.specs.Prelude.{ℕ, Bool, ◌||◌, cond, List, length, find, Some, None, Ok, Err, Option, Result, option_map, ◌==◌, nat_lt}
use Rattle.fault.specs.declared.kinds.RecordFault.{RecordFault}
use Rattle.fault.specs.declared.kinds.RecordFault.TheVariants.{Sheet, NotZero, OutOfLimits}
use Rattle.fault.specs.declared.kinds.SheetFault.TheVariants.{Unfinished}
use Rattle.sheet.specs.declared.limited.Limited.{Limited}

-- the field at a bit, its value, and the least and the most that it may be
abbrev pub from_to : ℕ → ℕ → ℕ → ℕ → Limited
from_to b v l m = record { bit = b; value = v; least = l; most = m }

-- a field that must be zero
abbrev pub zero_at : ℕ → ℕ → Limited
zero_at b v = from_to b v 0 0

-- whether a field is outside its limits
abbrev pub is_outside : Limited → Bool
is_outside f = nat_lt f.value f.least || nat_lt f.most f.value

-- the first bit of the first field outside its limits
abbrev pub first_outside : List Limited → Option ℕ
first_outside fs = option_map (λ f. f.bit) (find is_outside fs)

-- record k with these first bits outside: what must be zero comes first
abbrev pub refusal : ℕ → Option ℕ → Option ℕ → Result (Unit {0}) RecordFault
refusal k (Some b) limit = Err (NotZero k b)
refusal k None (Some b) = Err (OutOfLimits k b)
refusal k None None = Ok tt

-- record k with these fields that must be zero, and these fields with limits
abbrev pub judged : ℕ → List Limited → List Limited → Result (Unit {0}) RecordFault
judged k zeros limits = refusal k (first_outside zeros) (first_outside limits)

-- a record that is not refused
abbrev pub accepted : {R : Type 0} → Result (Unit {0}) RecordFault → R → Result R RecordFault
accepted (Ok _) x = Ok x
accepted (Err f) x = Err f

-- what is not exactly z octets is no record
abbrev pub exactly : {R : Type 0} → ℕ → ℕ → List ℕ → Result R RecordFault → Result R RecordFault
exactly z k s r = cond (length s == z) r (Err (Sheet (Unfinished k)))
