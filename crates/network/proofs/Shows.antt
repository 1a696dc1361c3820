-- The state that a list of gate records shows at a place.
use mathlib.Core.Path.{◌≡◌, ◌∙◌, refl, sym, subst}
use mathlib.Core.List.{List, [], ◌∷◌}
use mathlib.Core.Logic.{◌⊎◌, inl, inr}
use Prim.Native.Nat.{ℕ, ◌+◌, ◌-◌, ◌<◌}
use native.Mathlib.Decide.{dec_lt}
use native.Mathlib.Omega.{arith}
use Rattle.network.specs.Gates.{Gate, Shows, now, later, durations}

-- what a list shows at y is the first record's, or what the rest shows after its duration
abbrev pub Part : List Gate → ℕ → ℕ → Type 0
Part [] y s = ⊥
Part (e ∷ es) y s = ((y < e.duration) × (s ≡ e.state)) ⊎ ((z : ℕ) × (y ≡ e.duration + z) × Shows es z s)

pub shows-part : {es : List Gate} {y s : ℕ} → Shows es y s → Part es y s
shows-part (now lt) = inl (lt, refl)
shows-part (later {y = z} shown) = inr (z, refl, shown)

-- before the first duration has passed a list shows the first state ..
pub shows-now : {e : Gate} {es : List Gate} {y s : ℕ} → Shows (e ∷ es) y s → y < e.duration → s ≡ e.state
shows-now shown lt = elim (shows-part shown) [ inl first ↦ first.1 | inr rest ↦ let at = rest.1 in absurd (omega arith) ]

-- .. and after it what the rest shows
pub shows_later : {e : Gate} {es : List Gate} {y s : ℕ} (z : ℕ) → Shows (e ∷ es) y s → y ≡ e.duration + z → Shows es z s
shows_later {es = es} {s = s} z shown after =
    elim (shows-part shown) [
      | inl first ↦ let lt = first.0 in absurd (omega arith)
      | inr rest ↦ let at = rest.1 in let same : rest.0 ≡ z = omega arith in subst (λ (v : ℕ). Shows es v s) same rest.2
    ]

-- a list shows one state at a place
pub shows_unique : (es : List Gate) {y s r : ℕ} → Shows es y s → Shows es y r → s ≡ r
shows_unique [] one other = absurd (shows-part one)
shows_unique (e ∷ es) one other =
    elim (shows-part one) [
      | inl first ↦ first.1 ∙ sym (shows-now other first.0)
      | inr rest ↦ shows_unique es rest.2 (shows_later rest.0 other rest.1)
    ]

-- a list shows a state at each place below the sum of its durations ..
pub shows-some : (es : List Gate) (y : ℕ) → y < durations es → (s : ℕ) × Shows es y s
shows-some [] y lt = absurd (omega arith)
shows-some (e ∷ es) y lt =
    elim (dec_lt y e.duration) [
      | yes first ↦ (e.state, now first)
      | no rest ↦
          let at : e.duration + (y - e.duration) ≡ y = omega arith in
          let (s, shown) = shows-some es (y - e.duration) (omega arith) in
          (s, subst (λ (v : ℕ). Shows (e ∷ es) v s) at (later shown))
    ]

-- .. and at no other
pub shows-below : {es : List Gate} {y s : ℕ} → Shows es y s → y < durations es
shows-below (now lt) = omega arith
shows-below (later shown) = let lt = shows-below shown in omega arith
