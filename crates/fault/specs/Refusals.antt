-- What each fault tells: its number, its layer and its place, stated for each variant. Every promise takes them from here.
-- Assumes nothing.
use Rattle.std.specs.Prelude.{ℕ}
use Rattle.fault.specs.declared.kinds.PlanFault.{PlanFault}
use Rattle.fault.specs.declared.kinds.PlanFault.TheVariants.{Record, SetUpTwice, NotSetUp, Filling, Cycle, PortCount, BestEffort, NumberHeld, Full, NotHeld, NoPort, Period, Route, Length, WireTime, Deadline, Start, Taken, NoStart, Buffer}
use Rattle.fault.specs.declared.kinds.RecordFault.TheVariants.{Sheet, NotZero, OutOfLimits}
use Rattle.fault.specs.declared.kinds.SheetFault.TheVariants.{Unfinished}
use Rattle.fault.specs.declared.refusal.Layer.{Layer}
use Rattle.fault.specs.declared.refusal.Layer.TheVariants.{Sheet as sheet, Record as of_record, Plan as plan}
use Rattle.fault.specs.declared.refusal.Refusal.{Refusal}

-- number, layer, and the place: the record's index and bit, and the hop
abbrev pub tells : ℕ → Layer → ℕ → ℕ → ℕ → Refusal
tells n l k b h = record { number = n; layer = l; place = record { index = k; bit = b; hop = h } }

-- what each fault tells
abbrev pub refused : PlanFault → Refusal
refused (Record (Sheet (Unfinished k))) = tells 1 sheet k 0 0
refused (Record (NotZero k b)) = tells 2 of_record k b 0
refused (Record (OutOfLimits k b)) = tells 3 of_record k b 0
refused SetUpTwice = tells 4 plan 0 0 0
refused NotSetUp = tells 4 plan 0 0 0
refused Filling = tells 5 plan 0 0 0
refused Cycle = tells 5 plan 0 0 0
refused PortCount = tells 5 plan 0 0 0
refused BestEffort = tells 5 plan 0 0 0
refused NumberHeld = tells 6 plan 0 0 0
refused Full = tells 7 plan 0 0 0
refused NotHeld = tells 8 plan 0 0 0
refused NoPort = tells 8 plan 0 0 0
refused Period = tells 9 plan 0 0 0
refused (Route h) = tells 10 plan 0 0 h
refused Length = tells 11 plan 0 0 0
refused (WireTime h) = tells 12 plan 0 0 h
refused Deadline = tells 13 plan 0 0 0
refused Start = tells 14 plan 0 0 0
refused Taken = tells 15 plan 0 0 0
refused NoStart = tells 15 plan 0 0 0
refused Buffer = tells 16 plan 0 0 0
