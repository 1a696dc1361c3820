-- Gate records from a place on: the first is that of the places up to where the state changes.
-- Assumes nothing.
use Rattle.std.proofs.Common.{◌≡◌, ℕ, zero, suc, ◌+◌, ◌-◌, ◌<◌, ◌≤◌, Bool, true, false, eqb, List, [], ◌∷◌, sym, ap, ◌∙◌, subst, add-zero, arith}
use Rattle.std.proofs.lemmas.Bool.{eq-eqb, ne_eqb}
use Rattle.network.specs.Gates.{Gate}
use Rattle.planning.specs.Gates.{Lasts, joined, recorded}

-- one place before a record of the same state, or of another
joined_same : (s : ℕ) (e : Gate) (es : List Gate) → s ≡ e.state → joined s (e ∷ es) ≡ record { state = s; duration = suc e.duration } ∷ es
joined_same s e es same = rw (eq-eqb s e.state same, joined)

joined-other : (s : ℕ) (e : Gate) (es : List Gate) → ¬ (s ≡ e.state) → joined s (e ∷ es) ≡ record { state = s; duration = 1 } ∷ e ∷ es
joined-other s e es other = rw (ne_eqb s e.state other, joined)

-- .. and before a place of another state
joined-apart : (s r : ℕ) (es : List Gate) → ¬ (r ≡ s) → joined s (joined r es) ≡ record { state = s; duration = 1 } ∷ joined r es
joined-apart s r [] other = joined-other s (record { state = r; duration = 1 }) [] (λ same. other (sym same))
joined-apart s r (e ∷ es) other = go (eqb r e.state)
  where
    after : Bool → List Gate
    after b = elim b [
      | true ↦ record { state = r; duration = suc e.duration } ∷ es
      | false ↦ record { state = r; duration = 1 } ∷ e ∷ es
    ]

    go : (b : Bool) → joined s (after b) ≡ record { state = s; duration = 1 } ∷ after b
    go true = joined-other s (record { state = r; duration = suc e.duration }) es (λ same. other (sym same))
    go false = joined-other s (record { state = r; duration = 1 }) (e ∷ es) (λ same. other (sym same))

-- the first of n places has their state
lasts-first : (states : ℕ → ℕ) (y n s : ℕ) → Lasts states y (suc n) s → states y ≡ s
lasts-first states y n s lasts = subst (λ (x : ℕ). states x ≡ s) (add-zero y) (lasts 0 (omega arith))

-- one place, and then none or one of another state
recorded-one : (m y s : ℕ) (states : ℕ → ℕ) → states y ≡ s → (0 < m → ¬ (states (y + 1) ≡ s)) →
    joined (states y) (recorded states (suc y) m) ≡ record { state = s; duration = 1 } ∷ recorded states (suc y) m
recorded-one zero y s states first ends = ap (λ (r : ℕ). joined r []) first
recorded-one (suc m) y s states first ends =
    let apart = joined-apart s (states (suc y)) (recorded states (suc (suc y)) m) (subst (λ (x : ℕ). ¬ (states x ≡ s)) (omega arith) (ends (omega arith))) in
    ap (λ (r : ℕ). joined r (recorded states (suc y) (suc m))) first ∙ apart

-- n + 1 places of state s, and then none or one of another state
stretched : (n m y s : ℕ) (states : ℕ → ℕ) → Lasts states y (suc n) s → (0 < m → ¬ (states (y + suc n) ≡ s)) →
    recorded states y (suc n + m) ≡ record { state = s; duration = suc n } ∷ recorded states (y + suc n) m
stretched zero m y s states lasts ends =
    let one : 1 + m ≡ suc m = omega arith in
    let on : suc y ≡ y + 1 = omega arith in
    ap (recorded states y) one ∙ recorded-one m y s states (lasts-first states y 0 s lasts) ends ∙
    ap (λ (x : ℕ). record { state = s; duration = 1 } ∷ recorded states x m) on
stretched (suc n) m y s states lasts ends =
    let whole : suc (suc n) + m ≡ suc (suc n + m) = omega arith in
    let first = lasts-first states y (suc n) s lasts in
    let on : suc y + suc n ≡ y + suc (suc n) = omega arith in
    let later = stretched n m (suc y) s states
    (λ k less. subst (λ (x : ℕ). states x ≡ s) (omega arith) (lasts (suc k) (omega arith)))
    (λ some. subst (λ (x : ℕ). ¬ (states x ≡ s)) (omega arith) (ends some)) in
    ap (recorded states y) whole ∙ ap (joined (states y)) later ∙
    joined_same (states y) (record { state = s; duration = suc n }) (recorded states (suc y + suc n) m) first ∙
    ap (λ (r : ℕ). record { state = r; duration = suc (suc n) } ∷ recorded states (suc y + suc n) m) first ∙
    ap (λ (x : ℕ). record { state = s; duration = suc (suc n) } ∷ recorded states x m) on

-- the n places from y on, of state s, up to where it changes or the m places end
pub recorded_stretch : (y n m s : ℕ) (states : ℕ → ℕ) → 0 < n → n ≤ m → Lasts states y n s → (n < m → ¬ (states (y + n) ≡ s)) →
    recorded states y m ≡ record { state = s; duration = n } ∷ recorded states (y + n) (m - n)
recorded_stretch y zero m s states some le lasts ends = absurd (omega arith)
recorded_stretch y (suc n) m s states some le lasts ends =
    let whole : m ≡ suc n + (m - suc n) = omega arith in
    ap (recorded states y) whole ∙ stretched n (m - suc n) y s states lasts (λ left. ends (omega arith))
