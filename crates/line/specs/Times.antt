-- The wire times of the two kinds of line that are built.
-- Assumes nothing.
use Rattle.std.specs.Prelude.{ℕ, ◌+◌, ◌-◌, ◌*◌, ◌/◌, cond, List, nat_le, nat_lt, slice_index_or}
use Rattle.line.specs.declared.ethernet.Rate.{Rate}
use Rattle.line.specs.declared.ethernet.Rate.TheVariants.{Mb10, Mb100, Mb1000}

-- w where port q is below N and length l is from 64 to the largest frame, and 0 elsewhere
abbrev pub carried : ℕ → ℕ → ℕ → ℕ → ℕ → ℕ
carried N most q l w = cond (nat_lt q N) (cond (nat_le 64 l) (cond (nat_le l most) w 0) 0) 0

-- a rate by its code
abbrev pub code : Rate → ℕ
code Mb10 = 1
code Mb100 = 2
code Mb1000 = 3

-- nanoseconds an octet at a rate
abbrev pub octet : Rate → ℕ
octet Mb10 = 800
octet Mb100 = 80
octet Mb1000 = 8

-- Ethernet, largest frame 1,522: (length + 8) × the time of an octet; the 8 octets are the preamble and the start delimiter
abbrev pub ethernet_time : ℕ → List Rate → ℕ → ℕ → ℕ
ethernet_time N rates q l = carried N 1522 q l ((l + 8) * octet (slice_index_or rates q Mb10))

-- the number of cells of z octets that carry l octets, the last one perhaps not full
abbrev pub cells : ℕ → ℕ → ℕ
cells l z = (l + (z - 1)) / z

-- cells, largest frame 4,000: the number of cells of z octets × the time w of a cell
abbrev pub cell_time : ℕ → ℕ → ℕ → ℕ → ℕ → ℕ
cell_time N z w q l = carried N 4000 q l (cells l z * w)
