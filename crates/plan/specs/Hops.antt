-- A hop that a row stores.
-- Assumes nothing.
use Rattle.std.specs.Prelude.{ℕ, ◌≤◌}
use Rattle.network.specs.Flows as network
use Rattle.plan.specs.declared.row.Hop.{Hop}

-- the hop that is stored
abbrev pub hop : Hop → network.Hop
hop h = record { port = h.port; offset = h.offset; wire = h.wire }

-- a hop that is not there
abbrev pub blank : Hop
blank = record { port = 0; offset = 0; wire = 0 }

-- the times of a hop are within a period T: an offset that leaves room for sums, and a wire time from 1 to the period
pub record Within (T : ℕ) (h : Hop) : Type 0 where
  pub offset : h.offset ≤ 100000000
  pub wire_least : 1 ≤ h.wire
  pub wire_most : h.wire ≤ T
