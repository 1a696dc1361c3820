-- Tests and searches over lists and numbers, and lists with the same elements.
-- Assumes nothing.
use Rattle.std.specs.Prelude.{ℕ, zero, suc, Bool, true, false, ◌||◌, List, [], ◌∷◌, Some, None, Option}

-- some element passes the test
abbrev pub any : {A : Type 0} → (A → Bool) → List A → Bool
any p [] = false
any p (x ∷ xs) = p x || any p xs

-- the elements that fail the test
abbrev pub without : {A : Type 0} → (A → Bool) → List A → List A
without p [] = []
without p (x ∷ xs) = elim (p x) [ true ↦ without p xs | false ↦ x ∷ without p xs ]

-- the smallest of the n numbers from s on that passes the test
abbrev pub least : (ℕ → Bool) → ℕ → ℕ → Option ℕ
least p s zero = None
least p s (suc n) = elim (p s) [ true ↦ Some s | false ↦ least p (suc s) n ]

-- two lists have the same elements, each as often, in any order
pub data Same {A : Type 0} : List A → List A → Type 0 where
  none : Same [] []
  keep : {x : A} {xs ys : List A} → Same xs ys → Same (x ∷ xs) (x ∷ ys)
  swap : {x y : A} {xs : List A} → Same (x ∷ y ∷ xs) (y ∷ x ∷ xs)
  then : {xs ys zs : List A} → Same xs ys → Same ys zs → Same xs zs
