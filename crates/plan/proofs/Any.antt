-- A test over a list, by index.
-- Assumes nothing.
use Rattle.std.proofs.Common.{◌≡◌, ℕ, zero, suc, ◌<◌, Bool, true, false, ◌||◌, List, [], ◌∷◌, map, length, get_or, refl, ap, ◌∙◌, arith}
use Rattle.planning.specs.Lists.{any}

-- a test or one that passes passes
pub or_true : (a : Bool) → (a || true) ≡ true
or_true true = refl
or_true false = refl

module _ {A B : Type 0} (p : B → Bool) (f : A → B) (d : A) where
  pub any_true : (xs : List A) (k : ℕ) → k < length xs → p (f (get_or xs k d)) ≡ true → any p (map f xs) ≡ true
  any_true [] k within e = absurd (omega arith)
  any_true (x ∷ xs) zero within e = ap (λ b. b || any p (map f xs)) e
  any_true (x ∷ xs) (suc k) within e = ap (λ b. p (f x) || b) (any_true xs k (omega arith) e) ∙ or_true (p (f x))

  pub any_false : (xs : List A) → ((k : ℕ) → k < length xs → p (f (get_or xs k d)) ≡ false) → any p (map f xs) ≡ false
  any_false [] none = refl
  any_false (x ∷ xs) none = ap (λ b. b || any p (map f xs)) (none 0 (omega arith)) ∙ any_false xs (λ k below. none (suc k) (omega arith))
