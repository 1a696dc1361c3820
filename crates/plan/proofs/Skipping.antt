-- From how far a flow has to move to which starts are taken, row by row.
-- Assumes nothing.
use Rattle.std.proofs.Common.{◌≡◌, ℕ, zero, suc, ◌+◌, ◌-◌, ◌<◌, ◌≤◌, Bool, true, false, ◌||◌, List, [], ◌∷◌, length, get_or, refl, ap, ◌∙◌, subst, arith}
use Rattle.network.specs.Flows.{Flow}
use Rattle.network.specs.Overlap.{starting}
use Rattle.planning.specs.Overlaps.{overlaps}
use Rattle.plan.specs.Moves.{blocks, taken}
use Rattle.plan.specs.Rows.{flow, flows, none}
use Rattle.plan.specs.declared.row.Row.{Row}
use Rattle.plan.specs.declared.row.State.{State}
use Rattle.plan.specs.declared.row.State.TheVariants.{Free, Held}
use Rattle.plan.proofs.Any.{or_true}

-- a row that holds a flow blocks a start from s on as that flow overlaps once it has moved there
pub blocks_moved : (row : Row) (f : Flow) (s r : ℕ) (b : Bool) → (row.state ≡ Free → ⊥) → s ≤ r → overlaps (starting (s + (r - s)) f) (flow row) ≡ b → blocks row f r ≡ b
blocks_moved row f s r b held le e = go row.state held
  where
    at : s + (r - s) ≡ r
    at = omega arith

    go : (state : State) → (state ≡ Free → ⊥) → elim state [ Free ↦ false | Held ↦ overlaps (starting r f) (flow row) ] ≡ b
    go Free held = absurd (held refl)
    go Held held = subst (λ (x : ℕ). overlaps (starting x f) (flow row) ≡ b) at e

-- a start that some row blocks is taken
pub taken_by : (rows : List Row) (f : Flow) (s k : ℕ) → k < length rows → blocks (get_or rows k none) f s ≡ true → taken (flows rows) f s ≡ true
taken_by [] f s k within blocked = absurd (omega arith)
taken_by (row ∷ rows) f s zero within blocked = go row.state blocked
  where
    go : (state : State) → elim state [ Free ↦ false | Held ↦ overlaps (starting s f) (flow row) ] ≡ true → taken (elim state [ Free ↦ flows rows | Held ↦ flow row ∷ flows rows ]) f s ≡ true
    go Free e = let never : ◌≡◌ {A = ℕ} 0 1 = cc in absurd (omega arith)
    go Held e = ap (λ (b : Bool). b || taken (flows rows) f s) e
taken_by (row ∷ rows) f s (suc k) within blocked = go row.state (taken_by rows f s k (omega arith) blocked)
  where
    go : (state : State) → taken (flows rows) f s ≡ true → taken (elim state [ Free ↦ flows rows | Held ↦ flow row ∷ flows rows ]) f s ≡ true
    go Free e = e
    go Held e = ap (λ (b : Bool). overlaps (starting s f) (flow row) || b) e ∙ or_true (overlaps (starting s f) (flow row))

-- a start that no row blocks is not taken
pub taken_none : (rows : List Row) (f : Flow) (s : ℕ) → ((k : ℕ) → k < length rows → blocks (get_or rows k none) f s ≡ false) → taken (flows rows) f s ≡ false
taken_none [] f s free = refl
taken_none (row ∷ rows) f s free = go row.state (free 0 (omega arith)) (taken_none rows f s (λ k below. free (suc k) (omega arith)))
  where
    go : (state : State) → elim state [ Free ↦ false | Held ↦ overlaps (starting s f) (flow row) ] ≡ false → taken (flows rows) f s ≡ false → taken (elim state [ Free ↦ flows rows | Held ↦ flow row ∷ flows rows ]) f s ≡ false
    go Free e rest = rest
    go Held e rest = ap (λ (b : Bool). b || taken (flows rows) f s) e ∙ rest
