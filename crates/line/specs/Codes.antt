-- What a line means by the figures of its filling alone.
-- Assumes nothing.
use Rattle.std.specs.Prelude.{ℕ, cond, List, map, length, ◌==◌}
use Rattle.line.specs.declared.ethernet.Rate.{Rate}
use Rattle.line.specs.declared.ethernet.Rate.TheVariants.{Mb10, Mb100, Mb1000}
use Rattle.line.specs.Meaning.{Meaning}
use Rattle.line.specs.Times.{ethernet_time, cell_time}

-- the rate of a code that is 1, 2 or 3
abbrev pub rate : ℕ → Rate
rate c = cond (c == 1) Mb10 (cond (c == 2) Mb100 Mb1000)

-- an Ethernet line whose ports have these rate codes
abbrev pub coded : List ℕ → Meaning
coded cs = record { ports = length cs; time = ethernet_time (length cs) (map rate cs) }

-- a cell line with N ports, cells of z octets and w ns for a cell
abbrev pub celled : ℕ → ℕ → ℕ → Meaning
celled N z w = record { ports = N; time = cell_time N z w }
