-- What a test over a list and a search over numbers tell, and a list with one more thing or without it.
-- Assumes nothing.
use Rattle.std.proofs.Common.{◌≡◌, ℕ, zero, suc, ◌+◌, ◌<◌, ◌≤◌, Bool, true, false, ◌||◌, ◌⊎◌, List, [], ◌∷◌, Some, None, Decides, Option, refl, ap, subst, inl, inr, arith}
use native.Mathlib.Decide.{ℕ_discrete}
use Rattle.std.proofs.lemmas.Bool.{both_ways, cases_order, false≢true}
use Rattle.std.proofs.lemmas.Bool.Decides.{Decides-like, Decides-or}
use Rattle.network.specs.Flows.{At, here, next}
use Rattle.network.proofs.Lists.{At-empty, Found}
use Rattle.planning.specs.Lists.{any, least}

-- something with P stands first in a list, or further on
found_first : {A : Type 0} {P : A → Type 0} {x : A} {xs : List A} (n : ℕ) {y : A} → At (x ∷ xs) n y → P y → P x ⊎ Found P xs
found_first zero here holds = inl holds
found_first (suc n) {y} (next at) holds = inr (record { n = n; x = y; at = at; holds = holds })

-- where a test decides P of each thing in a list, `any` of it decides whether one with P stands there
pub decides-any : {A : Type 0} (p : A → Bool) (P : A → Type 0) (xs : List A) → ((n : ℕ) (x : A) → At xs n x → Decides (p x) (P x)) → Decides (any p xs) (Found P xs)
decides-any p P [] each = (λ e. absurd (false≢true e), λ found. absurd (At-empty found.at))
decides-any p P (x ∷ xs) each =
    Decides-like (p x || any p xs) to (λ found. found_first found.n found.at found.holds)
    (Decides-or (p x) (any p xs) (each 0 x here) (decides-any p P xs (λ n y at. each (suc n) y (next at))))
  where
    to : P x ⊎ Found P xs → Found P (x ∷ xs)
    to (inl holds) = record { n = 0; x = x; at = here; holds = holds }
    to (inr found) = record { n = suc found.n; x = found.x; at = next found.at; holds = found.holds }

-- one more thing before a list, unless it is left out
abbrev pub kept : {A : Type 0} → Bool → A → List A → List A
kept out x xs = elim out [ true ↦ xs | false ↦ x ∷ xs ]

-- an answer to the search for the smallest of the n numbers from s on that passes a test
abbrev pub Least : (ℕ → Bool) → ℕ → ℕ → Option ℕ → Type 0
Least p s n (Some r) = (s ≤ r) × (r < s + n) × (p r ≡ true) × ((k : ℕ) → s ≤ k → k < r → p k ≡ false)
Least p s n None = (k : ℕ) → s ≤ k → k < s + n → p k ≡ false

-- s fails, and the answer for the numbers after s holds
least-later : (p : ℕ → Bool) (s n : ℕ) (o : Option ℕ) → p s ≡ false → Least p (suc s) n o → Least p s (suc n) o
least-later p s n (Some r) fails (from, below, passes, before) = (omega arith, omega arith, passes, smallest)
  where
    smallest : (k : ℕ) → s ≤ k → k < r → p k ≡ false
    smallest k le lt = elim (ℕ_discrete s k) [
      | yes e ↦ subst (λ (z : ℕ). p z ≡ false) e fails
      | no differ ↦ before k (omega arith) lt
    ]
least-later p s n None fails before = none
  where
    none : (k : ℕ) → s ≤ k → k < s + suc n → p k ≡ false
    none k le lt = elim (ℕ_discrete s k) [
      | yes e ↦ subst (λ (z : ℕ). p z ≡ false) e fails
      | no differ ↦ before k (omega arith) (omega arith)
    ]

pub least-is : (p : ℕ → Bool) (s n : ℕ) → Least p s n (least p s n)
least-is p s zero = λ k le lt. absurd (omega arith)
least-is p s (suc n) = go (p s) refl (least-is p (suc s) n)
  where
    go : (b : Bool) → p s ≡ b → Least p (suc s) n (least p (suc s) n) → Least p s (suc n) (elim b [ true ↦ Some s | false ↦ least p (suc s) n ])
    go true passes later = (omega arith, omega arith, passes, λ k le lt. absurd (omega arith))
    go false fails later = least-later p s n (least p (suc s) n) fails later

-- the search has one answer
least-alone : (p : ℕ → Bool) (s n : ℕ) (o o' : Option ℕ) → Least p s n o → Least p s n o' → o ≡ o'
least-alone p s n (Some r) (Some r') (from, below, passes, before) (from', below', passes', before') = elim (cases_order r r') [
  | inl same ↦ ap Some same
  | inr (inl less) ↦ absurd (both_ways (p r) (before' r from less) passes)
  | inr (inr more) ↦ absurd (both_ways (p r') (before r' from' more) passes')
]
least-alone p s n (Some r) None (from, below, passes, before) none = absurd (both_ways (p r) (none r from below) passes)
least-alone p s n None (Some r) none (from, below, passes, before) = absurd (both_ways (p r) (none r from below) passes)
least-alone p s n None None none none' = refl

pub least_unique : (p : ℕ → Bool) (s n : ℕ) (o : Option ℕ) → Least p s n o → least p s n ≡ o
least_unique p s n o is = least-alone p s n (least p s n) o (least-is p s n) is
