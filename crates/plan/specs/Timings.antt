-- The times of a route as an offer takes them, and the answer of the checks that look at its figures alone.
-- Assumes nothing.
use Rattle.std.specs.Prelude.{◌≡◌, ℕ, ◌<◌, ◌≤◌, map, length, take, Some, None, Ok, Err, Result, slice_index, slice_index_or}
use Rattle.fault.specs.declared.kinds.PlanFault.{PlanFault}
use Rattle.line.specs.Meaning.{Meaning}
use Rattle.network.specs.Flows.{Network, total}
use Rattle.planning.specs.Offers.{Offered, hops, unfit}
use Rattle.planning.specs.Setups as planning
use Rattle.plan.specs.declared.setup.Setup.{Setup}
use Rattle.plan.specs.declared.timing.Timing.{Timing}
use Rattle.plan.specs.Rows.{hop, blank}
use Rattle.plan.specs.Setups.{setup}

-- the network of a line and a stored set-up
abbrev pub network : Meaning → Setup → Network
network m c = planning.network m (setup c)

-- the times of an offer's route in a network whose largest frame is `most`: its hops are the first of 8, its offsets and
-- its total time leave room for sums, and where the line carries the length no wire time is 0
pub record Times (most : ℕ) (net : Network) (x : Offered) (r : Timing) : Type 0 where
  pub long : length r.hops ≡ 8
  pub hops : map hop (take (length x.route) r.hops) ≡ hops net x.length 0 x.route
  pub total : r.total ≡ total net (map hop (take (length x.route) r.hops))
  pub total_most : r.total ≤ 100000000
  pub offsets : (k : ℕ) → k < length x.route → (slice_index_or r.hops k blank).offset ≤ 100000000
  pub wires : 64 ≤ x.length → x.length ≤ most → (k : ℕ) → k < length x.route → slice_index x.route k < net.ports → 1 ≤ (slice_index_or r.hops k blank).wire

-- an offer passes with its times: no refusal concerns its figures, and where its length is from 64 each wire time is
-- from 1 to the period
pub record Passed (most : ℕ) (net : Network) (x : Offered) (r : Timing) : Type 0 where
  pub none : unfit net most x ≡ None
  pub times : Times most net x r
  pub wires : 64 ≤ x.length → (k : ℕ) → k < length x.route → (1 ≤ (slice_index_or r.hops k blank).wire) × ((slice_index_or r.hops k blank).wire ≤ x.period)

-- the answer of the checks of an offer's figures: the times of its route, or the first refusal that concerns the figures
abbrev pub Judged : ℕ → Network → Offered → Result Timing PlanFault → Type 0
Judged most net x (Ok r) = Passed most net x r
Judged most net x (Err e) = unfit net most x ≡ Some e
