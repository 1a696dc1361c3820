-- When two flows overlap, when a start fits, and which start is the earliest.
-- Assumes nothing.
use Rattle.std.specs.Prelude.{◌≡◌, List, ℕ, ◌+◌, ◌<◌}
use Rattle.spans.specs.Spans.{Share}
use Rattle.network.specs.Flows.{At, Hop, Flow}

-- the first instant of a flow's frame 0 at a hop: s + o; frame a begins a periods later
abbrev pub first : Flow → Hop → ℕ
first f h = f.start + h.offset

-- two flows overlap: on some port a span of one shares an instant with a span of the other
pub record Overlap (f g : Flow) : Type 0 where
  pub j : ℕ
  pub k : ℕ
  pub h : Hop
  pub i : Hop
  pub one : At f.hops j h
  pub other : At g.hops k i
  pub port : h.port ≡ i.port
  pub share : Share (first f h) f.period h.wire (first g i) g.period i.wire

-- no two of the flows overlap
abbrev pub Apart : List Flow → Type 0
Apart flows = (i j : ℕ) (f g : Flow) → At flows i f → At flows j g → Overlap f g → i ≡ j

-- some two of the flows overlap
pub record Clash (flows : List Flow) : Type 0 where
  pub i : ℕ
  pub j : ℕ
  pub f : Flow
  pub g : Flow
  pub one : At flows i f
  pub other : At flows j g
  pub two : i < j
  pub overlap : Overlap f g

-- a flow fits: it overlaps none of the flows
abbrev pub Fits : List Flow → Flow → Type 0
Fits flows f = (j : ℕ) (g : Flow) → At flows j g → ¬ Overlap f g

-- the flow with start s
abbrev pub starting : ℕ → Flow → Flow
starting s f = record {
  number = f.number;
  length = f.length;
  period = f.period;
  deadline = f.deadline;
  start = s;
  hops = f.hops;
}

-- s is the earliest start of a flow: the smallest one below its period at which it fits
pub record Earliest (flows : List Flow) (f : Flow) (s : ℕ) : Type 0 where
  pub below : s < f.period
  pub fits : Fits flows (starting s f)
  pub smallest : (r : ℕ) → r < s → ¬ Fits flows (starting r f)
