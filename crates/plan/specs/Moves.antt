-- How far a flow has to move to clear others: what an answer says of a test that tells whether it still clashes once it has moved up by m.
-- Assumes nothing.
use Rattle.std.specs.Prelude.{◌≡◌, ℕ, ◌+◌, ◌<◌, ◌≤◌, Bool, true, false, ◌&&◌, List, Some, None, Option, ◌==◌}
use Rattle.spans.specs.Formula.{shares}
use Rattle.spans.specs.declared.span.Spans.{Spans}
use Rattle.spans.specs.declared.span.overlap.Clearance.{Clearance}
use Rattle.spans.specs.declared.span.overlap.Clearance.TheVariants.{Clear, After, Never}
use Rattle.network.specs.Flows.{Hop, Flow}
use Rattle.network.specs.Overlap.{first, starting}
use Rattle.planning.specs.Lists.{any}
use Rattle.planning.specs.Overlaps.{overlaps}
use Rattle.plan.specs.declared.row.Row.{Row}
use Rattle.plan.specs.declared.row.State.TheVariants.{Free, Held}
use Rattle.plan.specs.Rows.{flow}

-- clear: it does not clash; after n: it clashes while it has moved up by less than n; never: it clashes however far it moves
abbrev pub Moves : (ℕ → Bool) → Clearance → Type 0
Moves clash Clear = clash 0 ≡ false
Moves clash (After n) = (0 < n) × ((m : ℕ) → m < n → clash m ≡ true)
Moves clash Never = (m : ℕ) → clash m ≡ true

-- from start s on, as far as a test tells which starts are taken: either all below T are, or all before the start
-- answered, and that one is not if it is s itself
abbrev pub Skips : (ℕ → Bool) → ℕ → ℕ → Option ℕ → Type 0
Skips taken T s None = (r : ℕ) → s ≤ r → r < T → taken r ≡ true
Skips taken T s (Some t) = (s ≤ t) × (t < T) × ((r : ℕ) → s ≤ r → r < t → taken r ≡ true) × (t ≡ s → taken s ≡ false)

-- the row holds a flow that overlaps f at start s
abbrev pub blocks : Row → Flow → ℕ → Bool
blocks row f s = elim row.state [ Free ↦ false | Held ↦ overlaps (starting s f) (flow row) ]

-- start s is taken: f does not fit there beside the flows
abbrev pub taken : List Flow → Flow → ℕ → Bool
taken flows f s = any (λ g. overlaps (starting s f) g) flows

-- spans on port q that have moved up by m share an instant with those of flow g at its hop i
abbrev pub clash : Spans → ℕ → Flow → Hop → ℕ → Bool
clash one q g i m = q == i.port && shares (one.first + m) one.period one.wire (first g i) g.period i.wire
