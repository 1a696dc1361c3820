-- The laws that tie the tests that compute to the words: overlap, the earliest start, the states of gates, and gate lists.
-- Assumes nothing.
use Rattle.std.specs.Prelude.{◌≡◌, ℕ, ◌/◌, ◌<◌, ◌≤◌, T, List, length, Some, None, Decides}
use Rattle.network.specs.Flows.{At, Flow, Network, Formed}
use Rattle.network.specs.Gates.{Covered, Guarded, State, Gate, GateList}
use Rattle.network.specs.Overlap.{Overlap, Fits, Earliest, starting}
use Rattle.planning.specs.Gates.{covered, guarded, state, gates}
use Rattle.planning.specs.Overlaps.{overlaps, fits, earliest}

-- two flows overlap exactly when for some hops on one port the distance formula says so
abbrev pub OverlapDecided : Type 0
OverlapDecided = (f g : Flow) → 0 < f.period → 0 < g.period → Decides (overlaps f g) (Overlap f g)

-- a flow fits exactly when it overlaps none of the flows
abbrev pub FitDecided : Type 0
FitDecided = (flows : List Flow) → ((j : ℕ) (g : Flow) → At flows j g → 0 < g.period) → (f : Flow) → 0 < f.period → Decides (fits flows f) (Fits flows f)

-- the search finds the earliest start, and finds none exactly when no start below the period fits
pub record SearchFinds (flows : List Flow) (f : Flow) : Type 0 where
  pub found : (s : ℕ) → earliest flows f ≡ Some s → Earliest flows f s
  pub only : (s : ℕ) → Earliest flows f s → earliest flows f ≡ Some s
  pub none : earliest flows f ≡ None → (s : ℕ) → s < f.period → ¬ Fits flows (starting s f)
  pub never : ((s : ℕ) → s < f.period → ¬ Fits flows (starting s f)) → earliest flows f ≡ None

abbrev pub EarliestFound : Type 0
EarliestFound = (flows : List Flow) → ((j : ℕ) (g : Flow) → At flows j g → 0 < g.period) → (f : Flow) → 0 < f.period → SearchFinds flows f

-- covered and guarded are what the remainder formulas say, and the state is the defined one and no other
pub record StateDecided (net : Network) (flows : List Flow) (q y : ℕ) : Type 0 where
  pub covers : T (covered flows q y) → Covered net flows q y
  pub covered : Covered net flows q y → T (covered flows q y)
  pub guards : T (guarded net flows q y) → Guarded net flows q y
  pub guarded : Guarded net flows q y → T (guarded net flows q y)
  pub is : State net flows q y (state net flows q y)
  pub alone : (s : ℕ) → State net flows q y s → s ≡ state net flows q y

abbrev pub StatesDecided : Type 0
StatesDecided = (net : Network) (flows : List Flow) (q y : ℕ) → Formed net flows → y < net.cycle → StateDecided net flows q y

-- the list that computes is the gate list, and the only one
abbrev pub GatesListed : Type 0
GatesListed = (net : Network) (flows : List Flow) (q : ℕ) → Formed net flows →
    GateList net flows q (gates net flows q) × ((es : List Gate) → GateList net flows q es → es ≡ gates net flows q)

-- with at most 64 flows, of which none has more than 16 periods in the cycle, it has at most 3,073 records
abbrev pub GatesFew : Type 0
GatesFew = (net : Network) (flows : List Flow) (q : ℕ) → Formed net flows →
    ((j : ℕ) (f : Flow) → At flows j f → net.cycle / f.period ≤ 16) → length flows ≤ 64 → length (gates net flows q) ≤ 3073
