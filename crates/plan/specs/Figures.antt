-- What is stored of a sheet of port records.
-- Assumes nothing.
use Rattle.std.specs.Prelude.{◌≡◌, ℕ, ◌≤◌, List, map, length, take, Ok, Err, Result, nat_lt, slice_index_or}
use Rattle.fault.specs.declared.kinds.PlanFault.{PlanFault}
use Rattle.fault.specs.declared.kinds.PlanFault.TheVariants.{Record}
use Rattle.fault.specs.declared.kinds.RecordFault.{RecordFault}
use Rattle.sheet.specs.declared.port.PortRecord.{PortRecord}
use Rattle.planning.specs.Lists.{any}
use Rattle.plan.specs.declared.figures.Figures.{Figures}
use Rattle.plan.specs.Calls.{port}
use Rattle.plan.specs.Ports as stored

-- the figures of port records: their number, the ports of the first 32, their greatest best-effort length, which is above
-- a number exactly where one of them is, and delays within their limits
pub record Figured (xs : List PortRecord) (f : Figures) : Type 0 where
  pub count : f.count ≡ length xs
  pub long : length f.ports ≡ 32
  pub ports : map stored.port (take (length xs) f.ports) ≡ map port (take 32 xs)
  pub longest : (most : ℕ) → nat_lt most f.longest ≡ any (λ x. nat_lt most x.best_effort) xs
  pub delays : (q : ℕ) → ((slice_index_or f.ports q stored.blank).delay ≤ 100000) × ((slice_index_or f.ports q stored.blank).processing ≤ 1000000)

-- the figures where the records were read, and their fault where they were not
abbrev pub Reads : Result (List PortRecord) RecordFault → Result Figures PlanFault → Type 0
Reads (Ok xs) (Ok f) = Figured xs f
Reads (Ok xs) (Err e) = ⊥
Reads (Err e) r = r ≡ Err (Record e)
