-- What it tells that a test passes: of numbers, of two tests, and of a test over a list.
-- Assumes nothing.
use Rattle.std.proofs.Common.{◌≡◌, ℕ, suc, Bool, true, false, ◌&&◌, ◌||◌, T, eqb, ◌⊎◌, List, [], ◌∷◌, sym, refl, subst, inl, inr}
use lib.Dec.{eqb_refl}
use Rattle.network.specs.Flows.{At, here, next}
use Rattle.network.proofs.Lists.{Found}
use Rattle.planning.specs.Lists.{any}

pub decided_passes : (b : Bool) → T b ⊎ ¬ T b
decided_passes true = inl tt
decided_passes false = inr (λ pass. pass)

pub eqb-eq : (m n : ℕ) → m ≡ n → T (eqb m n)
eqb-eq m n same = subst (λ (x : ℕ). T (eqb m x)) same (eqb_refl m)

pub and-only : (a b : Bool) → T (a && b) → T a × T b
and-only true b pass = (tt, pass)
and-only false b pass = absurd pass

pub and-all : (a b : Bool) → T a → T b → T (a && b)
and-all true b one other = other
and-all false b one other = absurd one

pub or-one : (a b : Bool) → T a → T (a || b)
or-one true b pass = tt
or-one false b pass = absurd pass

pub or-other : (a b : Bool) → T b → T (a || b)
or-other true b pass = tt
or-other false b pass = pass

-- some element passes exactly when one that passes stands in the list
pub any-only : {A : Type 0} (p : A → Bool) (xs : List A) → T (any p xs) → Found (λ x. T (p x)) xs
any-only p [] pass = absurd pass
any-only p (x ∷ xs) pass = go (p x) refl pass (any-only p xs)
  where
    go : (b : Bool) → p x ≡ b → T (b || any p xs) → (T (any p xs) → Found (λ y. T (p y)) xs) → Found (λ y. T (p y)) (x ∷ xs)
    go true e pass later = record { n = 0; x = x; at = here; holds = subst T (sym e) tt }
    go false e pass later =
        let found = later pass in
        record { n = suc found.n; x = found.x; at = next found.at; holds = found.holds }

pub any-all : {A : Type 0} (p : A → Bool) {xs : List A} {n : ℕ} {x : A} → At xs n x → T (p x) → T (any p xs)
any-all p (here {x = x} {xs = xs}) pass = or-one (p x) (any p xs) pass
any-all p (next {y = y} {xs = xs} at) pass = or-other (p y) (any p xs) (any-all p at pass)
