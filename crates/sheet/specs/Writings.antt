-- What a writing answers, and what its buffer holds then.
-- Assumes nothing.
use Rattle.std.specs.Prelude.{ℕ, cond, List, ◌++◌, drop, Ok, Err, Result, nat_le}
use Rattle.fault.specs.declared.kinds.PlanFault.{PlanFault}
use Rattle.fault.specs.declared.kinds.PlanFault.TheVariants.{Record, Buffer}
use Rattle.fault.specs.declared.kinds.RecordFault.{RecordFault}

-- a record that is judged so, of z octets, into a buffer of n: the judgment comes first
abbrev pub answered : ℕ → ℕ → Result (Unit {0}) RecordFault → Result (Unit {0}) PlanFault
answered z n (Ok _) = cond (nat_le z n) (Ok tt) (Err Buffer)
answered z n (Err f) = Err (Record f)

-- records that are judged so, m octets in all, into a buffer of n: a done writing answers m
abbrev pub answered_sheet : ℕ → ℕ → Result (Unit {0}) RecordFault → Result ℕ PlanFault
answered_sheet m n (Ok _) = cond (nat_le m n) (Ok m) (Err Buffer)
answered_sheet m n (Err f) = Err (Record f)

-- a done writing puts the octets s at the front; a refused one leaves the buffer as it was
abbrev pub put : {R : Type 0} → Result R PlanFault → ℕ → List ℕ → List ℕ → List ℕ
put (Ok _) z s buffer = s ++ drop z buffer
put (Err _) z s buffer = buffer
