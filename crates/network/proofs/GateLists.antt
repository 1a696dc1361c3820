-- Each port has one state at each place of the cycle, and so exactly one gate list.
use mathlib.Core.Path.{◌≡◌, refl}
use mathlib.Core.List.{List}
use mathlib.Core.Logic.Dec
use Prim.Native.Nat.{ℕ, ◌<◌}
use native.Mathlib.Decide.{ℕ_discrete, map_dec}
use native.Mathlib.Omega.{arith}
use Rattle.spans.specs.Spans.{Covers, Guards}
use Rattle.network.specs.Flows.{Hop, Flow, Network, Well, Formed}
use Rattle.network.specs.Overlap.{first}
use Rattle.network.specs.Gates.{Covered, Guarded, State, scheduled, closed, unscheduled, Gate, GateList}
use Rattle.network.specs.Theorems.{OneGateList}
use Rattle.network.proofs.Lists.{Found, decided_found}
use Rattle.network.proofs.PlacesDecided.{decided_covers, decided_guards}
use Rattle.network.proofs.Listed.{Listed, listed_unique, listed-some}

-- a place has at most one state
pub state_unique : {net : Network} {flows : List Flow} {q y s r : ℕ} → State net flows q y s → State net flows q y r → s ≡ r
state_unique (scheduled covered) (scheduled covered') = refl
state_unique (scheduled covered) (closed bare guarded) = absurd (bare covered)
state_unique (scheduled covered) (unscheduled bare free) = absurd (bare covered)
state_unique (closed bare guarded) (scheduled covered) = absurd (bare covered)
state_unique (closed bare guarded) (closed bare' guarded') = refl
state_unique (closed bare guarded) (unscheduled bare' free) = absurd (free guarded)
state_unique (unscheduled bare free) (scheduled covered) = absurd (bare covered)
state_unique (unscheduled bare free) (closed bare' guarded) = absurd (free guarded)
state_unique (unscheduled bare free) (unscheduled bare' free') = refl

-- some hop of some flow has P
abbrev SomeHop : List Flow → (Flow → Hop → Type 0) → Type 0
SomeHop flows P = Found (λ f. Found (P f) f.hops) flows

module _ (net : Network) (flows : List Flow) (some : 0 < net.cycle) (formed : Formed net flows) (q y : ℕ) where
  -- where P is decided of each hop of a well-formed flow, it is decided whether some hop has it
  decided_some_hop : (P : Flow → Hop → Type 0) → ((f : Flow) (h : Hop) → Well net f → Dec (P f h)) → Dec (SomeHop flows P)
  decided_some_hop P each =
      decided_found (λ f. Found (P f) f.hops) flows (λ j f flow. decided_found (P f) f.hops (λ k h hop. each f h (formed.each j f flow)))

  decided_covered : Dec (Covered net flows q y)
  decided_covered =
      map_dec
      (λ found.
      let hop = found.holds in
      let (port, covers) = hop.holds in
      record { j = found.n; k = hop.n; f = found.x; h = hop.x; flow = found.at; hop = hop.at; port = port; covers = covers })
      (λ c. record { n = c.j; x = c.f; at = c.flow; holds = record { n = c.k; x = c.h; at = c.hop; holds = (c.port, c.covers) } })
      (decided_some_hop (λ f h. (h.port ≡ q) × Covers net.cycle (first f h) f.period h.wire y)
      (λ f h well.
      let covers = decided_covers net.cycle well.periods (first f h) f.period h.wire y well.divides some in
      Dec.and (ℕ_discrete h.port q) covers))

  decided_guarded : Dec (Guarded net flows q y)
  decided_guarded =
      map_dec
      (λ found.
      let hop = found.holds in
      let (port, guards) = hop.holds in
      record { j = found.n; k = hop.n; f = found.x; h = hop.x; flow = found.at; hop = hop.at; port = port; guards = guards })
      (λ g. record { n = g.j; x = g.f; at = g.flow; holds = record { n = g.k; x = g.h; at = g.hop; holds = (g.port, g.guards) } })
      (decided_some_hop (λ f h. (h.port ≡ q) × Guards net.cycle (first f h) f.period _ y)
      (λ f h well.
      let guards = decided_guards net.cycle well.periods (first f h) f.period _ y well.divides some in
      Dec.and (ℕ_discrete h.port q) guards))

  -- a place has a state
  pub state-some : (s : ℕ) × State net flows q y s
  state-some = go decided_covered decided_guarded
    where
      go : Dec (Covered net flows q y) → Dec (Guarded net flows q y) → (s : ℕ) × State net flows q y s
      go (yes covered) guarded = (0x80, scheduled covered)
      go (no bare) (yes guarded) = (0x00, closed bare guarded)
      go (no bare) (no free) = (0x7f, unscheduled bare free)

-- a gate list is a list of gate records for the states of its port
gate-listed : {net : Network} {flows : List Flow} {q : ℕ} {es : List Gate} → GateList net flows q es → Listed (State net flows q) net.cycle es
gate-listed l = record { some = l.some; whole = l.whole; differ = l.differ; states = l.states }

-- a port has at most one gate list
pub gate_list_unique : {net : Network} {flows : List Flow} {q : ℕ} (es fs : List Gate) → GateList net flows q es → GateList net flows q fs → es ≡ fs
gate_list_unique {net} {flows} {q} es fs l m =
    listed_unique es fs (State net flows q) net.cycle (λ y s r. state_unique) (gate-listed l) (gate-listed m)

-- a port has a gate list
pub gate_list-some : (net : Network) (flows : List Flow) (q : ℕ) → Formed net flows → (es : List Gate) × GateList net flows q es
gate_list-some net flows q formed =
    let (es, l) = listed-some net.cycle (State net flows q) (λ y lt. state-some net flows (omega arith) formed q y) in
    (es, record { some = l.some; whole = l.whole; differ = l.differ; states = l.states })

-- each port has exactly one gate list
pub one-gate_list : OneGateList
one-gate_list net flows q some formed =
    let (es, l) = gate_list-some net flows q formed in
    (es, l, λ fs m. gate_list_unique fs es m l)
