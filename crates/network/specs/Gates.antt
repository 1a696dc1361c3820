-- The state of a port's gates at each place of the cycle, and gate lists.
-- Assumes nothing.
use Rattle.std.specs.Prelude.{◌≡◌, List, [], ◌∷◌, ℕ, suc, ◌+◌, ◌≤◌, ◌<◌}
use Rattle.spans.specs.Spans.{Covers, Guards}
use Rattle.network.specs.Flows.{At, Hop, Flow, Network, guard}
use Rattle.network.specs.Overlap.{first}

-- a span of some flow on port q covers an instant with place y
pub record Covered (net : Network) (flows : List Flow) (q y : ℕ) : Type 0 where
  pub j : ℕ
  pub k : ℕ
  pub f : Flow
  pub h : Hop
  pub flow : At flows j f
  pub hop : At f.hops k h
  pub port : h.port ≡ q
  pub covers : Covers net.cycle (first f h) f.period h.wire y

-- the first instant of some flow's span on port q has a place b for which (b − y) modulo C is at most the guard band
pub record Guarded (net : Network) (flows : List Flow) (q y : ℕ) : Type 0 where
  pub j : ℕ
  pub k : ℕ
  pub f : Flow
  pub h : Hop
  pub flow : At flows j f
  pub hop : At f.hops k h
  pub port : h.port ≡ q
  pub guards : Guards net.cycle (first f h) f.period (guard net q) y

-- the state at place y of port q: 0x80 opens the class of scheduled frames, 0x7f the others, 0x00 none
pub data State (net : Network) (flows : List Flow) (q y : ℕ) : ℕ → Type 0 where
  scheduled : Covered net flows q y → State net flows q y 0x80
  closed : ¬ Covered net flows q y → Guarded net flows q y → State net flows q y 0x00
  unscheduled : ¬ Covered net flows q y → ¬ Guarded net flows q y → State net flows q y 0x7f

-- a gate record: a state and its duration
pub record Gate : Type 0 where
  pub state : ℕ
  pub duration : ℕ

-- in a list of gate records from place 0, the state at place y is s
pub data Shows : List Gate → ℕ → ℕ → Type 0 where
  now : {e : Gate} {es : List Gate} {y : ℕ} → y < e.duration → Shows (e ∷ es) y e.state
  later : {e : Gate} {es : List Gate} {y s : ℕ} → Shows es y s → Shows (e ∷ es) (e.duration + y) s

-- the durations of gate records add up to
abbrev pub durations : List Gate → ℕ
durations [] = 0
durations (e ∷ es) = e.duration + durations es

-- the gate list of port q: durations of at least 1 from place 0 that add up to C, neighbours different, the defined state at each place
pub record GateList (net : Network) (flows : List Flow) (q : ℕ) (es : List Gate) : Type 0 where
  pub some : (k : ℕ) (e : Gate) → At es k e → 1 ≤ e.duration
  pub whole : durations es ≡ net.cycle
  pub differ : (k : ℕ) (e e' : Gate) → At es k e → At es (suc k) e' → e.state ≡ e'.state → ⊥
  pub states : (y s : ℕ) → Shows es y s → State net flows q y s
