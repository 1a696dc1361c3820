-- What follows from the definitions of flows, gates and runs: the statements that public functions carry.
-- Assumes nothing.
use Rattle.std.specs.Prelude.{◌≡◌, List, ℕ, ◌+◌, ◌*◌, ◌≤◌, ◌<◌}
use Rattle.network.specs.Flows.{At, Hop, Flow, Network, Formed, Sound}
use Rattle.network.specs.Overlap.{Apart, Clash, first}
use Rattle.network.specs.Gates.{State, Gate, GateList}
use Rattle.network.specs.Run.{Sent, Ready, Run, Waits, Arrives, frame}

-- gates that have the defined state at each place of each port
abbrev pub Follow : Network → List Flow → (ℕ → ℕ → ℕ) → Type 0
Follow net flows gate = (q y : ℕ) → q < net.ports → y < net.cycle → State net flows q y (gate q y)

-- one frame keeps its plan: at each hop it is ready at its planned instant and never else, and begins then; and it arrives, within its deadline
pub record Kept (net : Network) (sent : Sent) (f : Flow) (a : ℕ) : Type 0 where
  pub ready : (k : ℕ) (h : Hop) → At f.hops k h → Ready net sent f a k h (first f h + a * f.period)
  pub only : (k r : ℕ) (h : Hop) → Ready net sent f a k h r → r ≡ first f h + a * f.period
  pub begun : (k : ℕ) (h : Hop) → At f.hops k h → sent h.port (first f h + a * f.period) ≡ frame f h a
  pub arrives : (t : ℕ) × Arrives net sent f a t
  pub intime : (t : ℕ) → Arrives net sent f a t → t ≤ f.start + a * f.period + f.deadline

-- no wait: flows that do not overlap keep their plan in every run under gates with the defined states
abbrev pub NoWait : Type 0
NoWait = (net : Network) (flows : List Flow) (gate : ℕ → ℕ → ℕ) (sent : Sent) →
    Sound net → Formed net flows → Apart flows → Follow net flows gate → Run net flows gate sent →
    (j a : ℕ) (f : Flow) → At flows j f → Kept net sent f a

-- runs exist, whether the flows overlap or not and whatever the gates
abbrev pub RunsExist : Type 0
RunsExist = (net : Network) (flows : List Flow) (gate : ℕ → ℕ → ℕ) → Formed net flows → (sent : Sent) × Run net flows gate sent

-- if two flows overlap, some scheduled frame waits in every run, whatever the gates
abbrev pub OverlapWaits : Type 0
OverlapWaits = (net : Network) (flows : List Flow) (gate : ℕ → ℕ → ℕ) (sent : Sent) →
    Formed net flows → Clash flows → Run net flows gate sent → Waits net flows sent

-- under gates with the defined states: no two flows overlap exactly when no run has a waiting frame, and two do exactly when some run has one
pub record WaitsExactly (net : Network) (flows : List Flow) (gate : ℕ → ℕ → ℕ) : Type 0 where
  pub none : Apart flows → (sent : Sent) → Run net flows gate sent → ¬ Waits net flows sent
  pub apart : ((sent : Sent) → Run net flows gate sent → ¬ Waits net flows sent) → Apart flows
  pub some : Clash flows → (sent : Sent) × Run net flows gate sent × Waits net flows sent
  pub clash : (sent : Sent) → Run net flows gate sent → Waits net flows sent → Clash flows

abbrev pub WaitsExactlyWhereFlowsOverlap : Type 0
WaitsExactlyWhereFlowsOverlap = (net : Network) (flows : List Flow) (gate : ℕ → ℕ → ℕ) →
    Sound net → Formed net flows → Follow net flows gate → WaitsExactly net flows gate

-- each port has exactly one gate list
abbrev pub OneGateList : Type 0
OneGateList = (net : Network) (flows : List Flow) (q : ℕ) → 0 < net.cycle → Formed net flows →
    (es : List Gate) × GateList net flows q es × ((fs : List Gate) → GateList net flows q fs → fs ≡ es)
