-- What stands at an index of a list: uniqueness, the index before, the last index, and a search.
use mathlib.Core.Path.{◌≡◌, refl, subst}
use mathlib.Core.List.{List, [], ◌∷◌}
use Prim.Native.Nat.{ℕ, zero, suc, ◌<◌}
use lib.ListN.{length, get_or}
use native.Mathlib.Omega.{arith}
use Rattle.network.specs.Flows.{At, here, next}

-- nothing stands in an empty list
pub At-empty : {A : Type 0} {n : ℕ} {x : A} → ¬ At [] n x
At-empty at = elim at [ ]

-- what stands at a later index of a list stands in its tail
pub At-tail : {A : Type 0} {x y : A} {xs : List A} {n : ℕ} → At (x ∷ xs) (suc n) y → At xs n y
At-tail (next at) = at

-- at an index stands one thing
pub At-unique : {A : Type 0} {xs : List A} {n : ℕ} {x y : A} → At xs n x → At xs n y → x ≡ y
At-unique here here = refl
At-unique (next at) (next at') = At-unique at at'

-- at equal indices stand equal things
pub At-same : {A : Type 0} {xs : List A} {m n : ℕ} {x y : A} → m ≡ n → At xs m x → At xs n y → x ≡ y
At-same {xs = xs} {x = x} e at at' = At-unique (subst (λ (k : ℕ). At xs k x) e at) at'

-- where an index has something, the index before has something too
pub At-before : {A : Type 0} (n : ℕ) {xs : List A} {x : A} → At xs (suc n) x → (y : A) × At xs n y
At-before zero (next here) = (_, here)
At-before (suc n) (next at) = let (y, before) = At-before n at in (y, next before)

-- what is found at an index below the length stands there
pub At-get_or : {A : Type 0} (xs : List A) (n : ℕ) (d : A) → n < length xs → At xs n (get_or xs n d)
At-get_or [] n d below = absurd (omega arith)
At-get_or (x ∷ xs) zero d below = here
At-get_or (x ∷ xs) (suc n) d below = next (At-get_or xs n d (omega arith))

-- x stands at index n, and n is the last index of the list
pub record Last {A : Type 0} (xs : List A) (n : ℕ) (x : A) : Type 0 where
  pub at : At xs n x
  pub end : (y : A) → ¬ At xs (suc n) y

-- a list that is not empty has a last index
pub has_last : {A : Type 0} (xs : List A) → 0 < length xs → (n : ℕ) × (x : A) × Last xs n x
has_last [] some = absurd (omega arith)
has_last (x ∷ []) some = (0, x, record { at = here; end = λ y at. At-empty (At-tail at) })
has_last (x ∷ y ∷ ys) some =
    let (n, z, last) = has_last (y ∷ ys) (omega arith) in
    (suc n, z, record { at = next last.at; end = λ w at. last.end w (At-tail at) })

-- somewhere in the list stands an x with P x
pub record Found {A : Type 0} (P : A → Type 0) (xs : List A) : Type 0 where
  pub n : ℕ
  pub x : A
  pub at : At xs n x
  pub holds : P x

-- where P is decided of each thing in a list, it is decided whether one with P stands there
pub decided_found : {A : Type 0} (P : A → Type 0) (xs : List A) → ((n : ℕ) (x : A) → At xs n x → Dec (P x)) → Dec (Found P xs)
decided_found P [] each = no (λ found. At-empty found.at)
decided_found {A = A} P (x ∷ xs) each = elim (each 0 x here) [
  | yes holds ↦ yes (record { n = 0; x = x; at = here; holds = holds })
  | no fails ↦ elim (decided_found P xs (λ n y at. each (suc n) y (next at))) [
    | yes found ↦ yes (record { n = suc found.n; x = found.x; at = next found.at; holds = found.holds })
    | no none ↦ no (λ found. nowhere fails none found.n found.x found.at found.holds)
  ]
]
  where
    nowhere : ¬ P x → ¬ Found P xs → (n : ℕ) (y : A) → At (x ∷ xs) n y → ¬ P y
    nowhere fails none zero y here holds = fails holds
    nowhere fails none (suc n) y (next at) holds = none (record { n = n; x = y; at = at; holds = holds })
