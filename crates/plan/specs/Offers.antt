-- What an offer is made of: the limits of its record, and the row that it gets.
-- Assumes nothing.
use Rattle.std.specs.Prelude.{◌≡◌, ℕ, ◌<◌, ◌≤◌, true, false, List, length, None, Ok, slice_index_or}
use Rattle.sheet.specs.declared.flow.FlowRecord.{FlowRecord}
use Rattle.network.specs.Flows.{Network}
use Rattle.planning.specs.Offers.{Offered, unfit, held, answer}
use Rattle.planning.specs.Overlaps.{fits}
use Rattle.planning.specs.Offers as planning
use Rattle.plan.specs.declared.row.Row.{Row}
use Rattle.plan.specs.declared.row.State.TheVariants.{Held}
use Rattle.plan.specs.Rows.{flow, flows, none, IsFree}

-- the limits of an accepted flow record that its offer needs
pub record Limited (x : FlowRecord) : Type 0 where
  pub length_least : 64 ≤ x.length
  pub period_least : 1 ≤ x.period
  pub period_most : x.period ≤ 1000000000
  pub hops_least : 1 ≤ x.hops
  pub hops_most : x.hops ≤ 8
  pub slots : length x.ports ≡ 8

-- the row of an offer that passes every check of its figures: it holds the flow with start 0
pub record Made (most : ℕ) (net : Network) (x : Offered) (r : Row) : Type 0 where
  pub passes : unfit net most x ≡ None
  pub state : r.state ≡ Held
  pub flow : flow r ≡ planning.flow net x 0

-- row k of the rows is free, and the row r that it becomes holds the offered flow at the start that it is answered
pub record Placed (most : ℕ) (net : Network) (rows : List Row) (x : Offered) (k : ℕ) (r : Row) : Type 0 where
  pub done : answer net most (flows rows) x ≡ Ok r.start
  pub row : k < length rows
  pub free : IsFree (slice_index_or rows k none)
  pub fresh : held x.number (flows rows) ≡ false
  pub state : r.state ≡ Held
  pub holds : flow r ≡ planning.flow net x r.start
  pub clear : fits (flows rows) (flow r) ≡ true
