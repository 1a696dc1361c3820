-- Worked figures of the wire times, of every line that has the rate codes, or the cell size and time, of the figure.
-- Assumes nothing.
use Rattle.std.specs.Prelude.{◌≡◌, ℕ, ◌<◌, slice_index_or}
use Rattle.line.specs.Kinds.{ethernet_meaning, cell_meaning}
use Rattle.line.specs.Times.{code}
use Rattle.line.specs.declared.cell.Cell.{Cell}
use Rattle.line.specs.declared.ethernet.Ethernet.{Ethernet}
use Rattle.line.specs.declared.ethernet.Rate.TheVariants.{Mb10}

-- port q of an Ethernet line is there, and its rate has code c
pub record HasCode (line : Ethernet) (q c : ℕ) : Type 0 where
  pub there : q < line.ports
  pub rate : code (slice_index_or line.rates q Mb10) ≡ c

-- port q of a cell line is there, and the line has cells of z octets and w ns
pub record HasCells (line : Cell) (q z w : ℕ) : Type 0 where
  pub there : q < line.ports
  pub size : line.size ≡ z
  pub time : line.time ≡ w

-- the figures: lengths in octets, wire times in nanoseconds
pub record LineFigures : Type 0 where
  pub of_100_at_code_2 : (line : Ethernet) (q : ℕ) → HasCode line q 2 → (ethernet_meaning line).time q 100 ≡ 8640
  pub of_1522_at_code_3 : (line : Ethernet) (q : ℕ) → HasCode line q 3 → (ethernet_meaning line).time q 1522 ≡ 12240
  pub of_64_at_code_1 : (line : Ethernet) (q : ℕ) → HasCode line q 1 → (ethernet_meaning line).time q 64 ≡ 57600
  pub of_1523_on_ethernet : (line : Ethernet) (q : ℕ) → (ethernet_meaning line).time q 1523 ≡ 0
  pub of_256_in_cells : (line : Cell) (q : ℕ) → HasCells line q 256 2500 → (cell_meaning line).time q 256 ≡ 2500
  pub of_257_in_cells : (line : Cell) (q : ℕ) → HasCells line q 256 2500 → (cell_meaning line).time q 257 ≡ 5000
