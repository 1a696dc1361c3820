-- The state at each place of a port as a test that computes, by the remainder formulas, and the gate list that has these states.
-- Assumes nothing.
use Rattle.std.specs.Prelude.{◌≡◌, ℕ, zero, suc, ◌+◌, ◌-◌, ◌<◌, Bool, true, false, cond, ◌&&◌, List, [], ◌∷◌, ◌==◌, nat_le, nat_lt}
use Rattle.spans.specs.Places.{ahead}
use Rattle.network.specs.Flows.{Hop, Flow, Network, guard}
use Rattle.network.specs.Overlap.{first}
use Rattle.network.specs.Gates.{Gate}
use Rattle.planning.specs.Lists.{any}

-- a hop of some flow on port q passes the test
abbrev pub on_port : (Flow → Hop → Bool) → ℕ → List Flow → Bool
on_port p q flows = any (λ f. any (λ h. (h.port == q) && p f h) f.hops) flows

-- place y is covered: it lies less than the wire time after the latest first instant of some span
abbrev pub covered : List Flow → ℕ → ℕ → Bool
covered flows q y = on_port (λ f h. nat_lt (ahead f.period y (first f h)) h.wire) q flows

-- place y is guarded by a guard band G: it lies at most G before the next first instant of some span
abbrev pub guarded_by : ℕ → List Flow → ℕ → ℕ → Bool
guarded_by G flows q y = on_port (λ f h. nat_le (ahead f.period (first f h) y) G) q flows

-- the state at place y of port q, with a guard band G
abbrev pub state_by : ℕ → List Flow → ℕ → ℕ → ℕ
state_by G flows q y = cond (covered flows q y) 0x80 (cond (guarded_by G flows q y) 0x00 0x7f)

-- the same on a network, with the port's own guard band
abbrev pub guarded : Network → List Flow → ℕ → ℕ → Bool
guarded net flows q y = guarded_by (guard net q) flows q y

abbrev pub state : Network → List Flow → ℕ → ℕ → ℕ
state net flows q y = state_by (guard net q) flows q y

-- at each of the n places from y on the state is s
abbrev pub Lasts : (ℕ → ℕ) → ℕ → ℕ → ℕ → Type 0
Lasts states y n s = (k : ℕ) → k < n → states (y + k) ≡ s

-- one place of state s before gate records, joined to the first of them where that has the same state
abbrev pub joined : ℕ → List Gate → List Gate
joined s [] = record { state = s; duration = 1 } ∷ []
joined s (e ∷ es) = elim (s == e.state) [
  | true ↦ record { state = s; duration = suc e.duration } ∷ es
  | false ↦ record { state = s; duration = 1 } ∷ e ∷ es
]

-- the gate records of the n places from y on
abbrev pub recorded : (ℕ → ℕ) → ℕ → ℕ → List Gate
recorded states y zero = []
recorded states y (suc n) = joined (states y) (recorded states (suc y) n)

-- the gate list of port q, with a guard band G and a cycle C
abbrev pub gates_by : ℕ → ℕ → List Flow → ℕ → List Gate
gates_by G C flows q = recorded (state_by G flows q) 0 C

-- its gate records from place y on
abbrev pub gates_from : ℕ → ℕ → List Flow → ℕ → ℕ → List Gate
gates_from G C flows q y = recorded (state_by G flows q) y (C - y)

-- the gate list on a network
abbrev pub gates : Network → List Flow → ℕ → List Gate
gates net flows q = gates_by (guard net q) net.cycle flows q
