-- What the rows of a plan hold.
-- Assumes nothing.
use Rattle.std.specs.Prelude.{◌≡◌, ℕ, List, [], ◌∷◌, map, take, replicate}
use Rattle.std.proofs.Common.{refl}
use Rattle.std.proofs.lemmas.Bool.{leb-true}
use Rattle.std.proofs.Math.Nat.{not-suc-le-zero}
use Rattle.network.specs.Flows.{Flow}
use Rattle.plan.specs.declared.row.Row.{Row}
use Rattle.plan.specs.declared.row.State.TheVariants.{Free, Held}
pub use Rattle.plan.specs.Hops.{hop, blank}

-- the flow that a row stores
abbrev pub flow : Row → Flow
flow r = record {
  number = r.number;
  length = r.length;
  period = r.period;
  deadline = r.deadline;
  start = r.start;
  hops = map hop (take r.count r.hops);
}

-- the flows of the rows that hold one
abbrev pub flows : List Row → List Flow
flows [] = []
flows (r ∷ rs) = elim r.state [ Free ↦ flows rs | Held ↦ flow r ∷ flows rs ]

-- a free row, which also stands for a row that is not there
abbrev pub none : Row
none = record {
  state = Free;
  number = 0;
  length = 0;
  period = 1;
  deadline = 0;
  start = 0;
  count = 0;
  hops = replicate 8 blank;
  period_least = leb-true 1 1 refl;
  period_most = leb-true 1 1000000000 refl;
  below = leb-true 1 1 refl;
  few = leb-true 0 8 refl;
  long = refl;
  within = λ k below. absurd (not-suc-le-zero below);
}

-- the row is free
abbrev pub IsFree : Row → Type 0
IsFree r = r.state ≡ Free

-- the row holds the flow of number n
abbrev pub Holds : ℕ → Row → Type 0
Holds n r = (r.state ≡ Held) × (r.number ≡ n)
