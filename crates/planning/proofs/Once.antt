-- What holds of each thing in a list, and lists in which no two things are related: one more before them, some taken away, in another order.
-- Assumes nothing.
use Rattle.std.proofs.Common.{◌≡◌, ℕ, zero, suc, Bool, true, false, List, [], ◌∷◌, refl, ap, arith}
use Rattle.network.specs.Flows.{At, here, next}
use Rattle.planning.specs.Lists.{without, Same, none, keep, swap, then}
use Rattle.planning.proofs.Lists.{kept}

-- P holds of each thing in a list
abbrev pub Each : {A : Type 0} → (A → Type 0) → List A → Type 0
Each {A} P xs = (n : ℕ) (x : A) → At xs n x → P x

-- only a thing and itself are related
abbrev pub Once : {A : Type 0} → (A → A → Type 0) → List A → Type 0
Once {A} R xs = (i j : ℕ) (x y : A) → At xs i x → At xs j y → R x y → i ≡ j

module _ {A : Type 0} (P : A → Type 0) where
  pub each_more : {x : A} {xs : List A} → P x → Each P xs → Each P (x ∷ xs)
  each_more first rest zero y here = first
  each_more first rest (suc n) y (next at) = rest n y at

  pub each_rest : {x : A} {xs : List A} → Each P (x ∷ xs) → Each P xs
  each_rest each n y at = each (suc n) y (next at)

  pub each-without : (p : A → Bool) (xs : List A) → Each P xs → Each P (without p xs)
  each-without p [] each = each
  each-without p (x ∷ xs) each = go (p x) (each-without p xs (each_rest each))
    where
      go : (b : Bool) → Each P (without p xs) → Each P (kept b x (without p xs))
      go true rest = rest
      go false rest = each_more (each 0 x here) rest

  pub each_same : {xs ys : List A} → Same xs ys → Each P xs → Each P ys
  each_same none each = each
  each_same (keep {x = x} same) each = each_more (each 0 x here) (each_same same (each_rest each))
  each_same (swap {x = x} {y = y}) each = each_more (each 1 y (next here)) (each_more (each 0 x here) (each_rest (each_rest each)))
  each_same (then same more) each = each_same more (each_same same each)

module _ {A : Type 0} (R : A → A → Type 0) where
  pub once-first : {x : A} {xs : List A} → Once R (x ∷ xs) → Each (λ y. ¬ R x y) xs
  once-first {x} once n y at related = let e = once 0 (suc n) x y here (next at) related in omega arith

  pub once_rest : {x : A} {xs : List A} → Once R (x ∷ xs) → Once R xs
  once_rest once i j x y at at' related = let e = once (suc i) (suc j) x y (next at) (next at') related in omega arith

module _ {A : Type 0} (R : A → A → Type 0) (symmetric : (x y : A) → R x y → R y x) where
  pub once_more : {x : A} {xs : List A} → Each (λ y. ¬ R x y) xs → Once R xs → Once R (x ∷ xs)
  once_more first rest zero zero y z here here related = refl
  once_more first rest zero (suc j) y z here (next at) related = absurd (first j z at related)
  once_more first rest (suc i) zero y z (next at) here related = absurd (first i y at (symmetric y z related))
  once_more first rest (suc i) (suc j) y z (next at) (next at') related = ap suc (rest i j y z at at' related)

  pub once-without : (p : A → Bool) (xs : List A) → Once R xs → Once R (without p xs)
  once-without p [] once = once
  once-without p (x ∷ xs) once = go (p x) (once-without p xs (once_rest R once))
    where
      go : (b : Bool) → Once R (without p xs) → Once R (kept b x (without p xs))
      go true rest = rest
      go false rest = once_more (each-without (λ y. ¬ R x y) p xs (once-first R once)) rest

  pub once-same : {xs ys : List A} → Same xs ys → Once R xs → Once R ys
  once-same none once = once
  once-same (keep {x = x} same) once = once_more (each_same (λ y. ¬ R x y) same (once-first R once)) (once-same same (once_rest R once))
  once-same (swap {x = x} {y = y}) once =
      let apart = once-first R once in
      let rest = once_rest R once in
      once_more
      (each_more (λ z. ¬ R y z) (λ related. apart 0 y here (symmetric y x related)) (once-first R rest))
      (once_more (each_rest (λ z. ¬ R x z) apart) (once_rest R rest))
  once-same (then same more) once = once-same more (once-same same once)
