-- Searches below a bound.
use mathlib.Core.Path.{◌≡◌, subst}
use mathlib.Core.Logic.Dec
use Prim.Native.Nat.{ℕ, zero, suc, ◌<◌}
use native.Mathlib.Decide.{dec_lt}
use native.Mathlib.Omega.{arith}

-- where P is decided of each number, it is decided whether some number below n has it
pub decided_some_below : (n : ℕ) (P : ℕ → Type 0) → ((u : ℕ) → Dec (P u)) → Dec ((u : ℕ) × (u < n) × P u)
decided_some_below zero P each = no (λ found. let lt = found.1 in omega arith)
decided_some_below (suc n) P each = go (each n) (decided_some_below n P each)
  where
    go : Dec (P n) → Dec ((u : ℕ) × (u < n) × P u) → Dec ((u : ℕ) × (u < suc n) × P u)
    go (yes holds) below = yes (n, omega arith, holds)
    go (no fails) (yes found) = let lt = found.1 in yes (found.0, omega arith, found.2)
    go (no fails) (no none) =
        no
        λ found.
        let lt = found.1 in
        elim (dec_lt found.0 n) [
          | yes less ↦ none (found.0, less, found.2)
          | no more ↦ let last : found.0 ≡ n = omega arith in fails (subst P last found.2)
        ]

-- and whether every number below n has it
pub decided_all_below : (n : ℕ) (P : ℕ → Type 0) → ((u : ℕ) → Dec (P u)) → Dec ((u : ℕ) → u < n → P u)
decided_all_below n P each = go (decided_some_below n (λ u. ¬ P u) (λ u. Dec.not (each u)))
  where
    go : Dec ((u : ℕ) × (u < n) × (¬ P u)) → Dec ((u : ℕ) → u < n → P u)
    go (yes found) = no (λ all. found.2 (all found.0 found.1))
    go (no none) = yes (λ u lt. elim (each u) [ yes holds ↦ holds | no fails ↦ absurd (none (u, lt, fails)) ])
