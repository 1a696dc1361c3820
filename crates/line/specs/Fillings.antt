-- What a filling takes, and what a line holds after one: a refused filling changes nothing.
-- Assumes nothing.
use Rattle.std.specs.Prelude.{◌≡◌, ℕ, ◌<◌, ◌≤◌, List, length, Ok, Err, Result, slice_index, slice_index_or}
use Rattle.fault.specs.declared.kinds.PlanFault.{PlanFault}
use Rattle.fault.specs.declared.kinds.PlanFault.TheVariants.{Filling}
use Rattle.line.specs.declared.cell.Cell.{Cell}
use Rattle.line.specs.declared.ethernet.Ethernet.{Ethernet}
use Rattle.line.specs.declared.ethernet.Rate.{Rate}
use Rattle.line.specs.declared.ethernet.Rate.TheVariants.{Mb10}
use Rattle.line.specs.Times.{code}

-- the rate of a code, or a refusal where it is not 1, 2 or 3
abbrev pub Decoded : ℕ → Result Rate PlanFault → Type 0
Decoded c (Ok rate) = code rate ≡ c
Decoded c (Err e) = (1 ≤ c → c ≤ 3 → ⊥) × (e ≡ Filling)

-- from 1 to 32 rate codes, each 1, 2 or 3
pub record Codes (cs : List ℕ) : Type 0 where
  pub some : 1 ≤ length cs
  pub few : length cs ≤ 32
  pub each : (q : ℕ) → q < length cs → (1 ≤ slice_index cs q) × (slice_index cs q ≤ 3)

-- an Ethernet line whose ports have these rate codes
pub record Coded (cs : List ℕ) (line : Ethernet) : Type 0 where
  pub ports : line.ports ≡ length cs
  pub rates : (q : ℕ) → q < length cs → code (slice_index_or line.rates q Mb10) ≡ slice_index cs q

-- the answer to a filling with rate codes, and the line after it
abbrev pub EthernetFilled : List ℕ → Ethernet → Result (Unit {0}) PlanFault → Ethernet → Type 0
EthernetFilled cs before (Ok _) after = Codes cs × Coded cs after
EthernetFilled cs before (Err e) after = (Codes cs → ⊥) × (e ≡ Filling) × (after ≡ before)

-- from 1 to 32 ports, cells from 64 to 1,024 octets, and from 1 to 100,000 ns for a cell
pub record Cells (N z w : ℕ) : Type 0 where
  pub some : 1 ≤ N
  pub few : N ≤ 32
  pub size_least : 64 ≤ z
  pub size_most : z ≤ 1024
  pub time_least : 1 ≤ w
  pub time_most : w ≤ 100000

-- a cell line with N ports, cells of z octets and w ns for a cell
pub record Celled (N z w : ℕ) (line : Cell) : Type 0 where
  pub ports : line.ports ≡ N
  pub size : line.size ≡ z
  pub time : line.time ≡ w

-- the answer to a filling of a cell line, and the line after it
abbrev pub CellFilled : ℕ → ℕ → ℕ → Cell → Result (Unit {0}) PlanFault → Cell → Type 0
CellFilled N z w before (Ok _) after = Cells N z w × Celled N z w after
CellFilled N z w before (Err e) after = (Cells N z w → ⊥) × (e ≡ Filling) × (after ≡ before)
