-- How many numbers in a row pass a test.
-- Assumes nothing.
use Rattle.std.proofs.Common.{◌≡◌, ℕ, zero, suc, ◌+◌, ◌*◌, ◌<◌, ◌≤◌, Bool, true, false, cond, ◌||◌, T, sym, refl, ap, ◌∙◌, subst, ap₂, add-zero, suc-add, zero-add, zero-mul, arith}

-- how many of the n numbers from y on pass the test
abbrev pub count : (ℕ → Bool) → ℕ → ℕ → ℕ
count p y zero = 0
count p y (suc n) = cond (p y) 1 0 + count p (suc y) n

-- a test that only passes where another does
pub count-≤ : (p r : ℕ → Bool) (y n : ℕ) → ((z : ℕ) → T (p z) → T (r z)) → count p y n ≤ count r y n
count-≤ p r y zero only = omega arith
count-≤ p r y (suc n) only =
    let later = count-≤ p r (suc y) n only in
    let now = go (p y) (r y) (only y) in
    omega arith
  where
    go : (a b : Bool) → (T a → T b) → ◌≤◌ (cond a 1 0) (cond b 1 0)
    go true true only = omega arith
    go true false only = absurd (only tt)
    go false b only = omega arith

pub count_none : (p : ℕ → Bool) (y n : ℕ) → ((z : ℕ) → z < n → ¬ T (p (y + z))) → count p y n ≡ 0
count_none p y zero none = refl
count_none p y (suc n) none =
    let later = count_none p (suc y) n (λ z less. subst (λ (x : ℕ). ¬ T (p x)) (omega arith) (none (suc z) (omega arith))) in
    let now = go (p y) (subst (λ (x : ℕ). ¬ T (p x)) (add-zero y) (none 0 (omega arith))) in
    omega arith
  where
    go : (a : Bool) → ¬ T a → ◌≡◌ {A = ℕ} (cond a 1 0) 0
    go true none = absurd (none tt)
    go false none = refl

pub count_or : (p r : ℕ → Bool) (y n : ℕ) → count (λ z. p z || r z) y n ≤ count p y n + count r y n
count_or p r y zero = omega arith
count_or p r y (suc n) =
    let later = count_or p r (suc y) n in
    let now = go (p y) (r y) in
    omega arith
  where
    go : (a b : Bool) → cond (a || b) 1 0 ≤ cond a 1 0 + cond b 1 0
    go true b = omega arith
    go false b = omega arith

count_more : (p : ℕ → Bool) (y m n : ℕ) → count p y (m + n) ≡ count p y m + count p (y + m) n
count_more p y zero n = ap₂ (count p) (sym (add-zero y)) (zero-add n) ∙ sym (zero-add (count p (y + 0) n))
count_more p y (suc m) n =
    let whole = ap (count p y) (suc-add m n) in
    let later = count_more p (suc y) m n in
    let from : count p (suc y + m) n ≡ count p (y + suc m) n = ap (λ (x : ℕ). count p x n) (omega arith) in
    omega arith

-- no two numbers nearer than g to each other pass
abbrev pub Sparse : ℕ → (ℕ → Bool) → Type 0
Sparse g p = (z k : ℕ) → 0 < k → k < g → T (p z) → ¬ T (p (z + k))

-- so of g in a row one passes at most
count_round : (p : ℕ → Bool) (y g n : ℕ) → Sparse g p → n ≤ g → count p y n ≤ 1
count_round p y g zero sparse le = omega arith
count_round p y g (suc n) sparse le = go (p y) refl (count_round p (suc y) g n sparse (omega arith))
  where
    go : (a : Bool) → p y ≡ a → count p (suc y) n ≤ 1 → cond a 1 0 + count p (suc y) n ≤ 1
    go true first later =
        let none = count_none p (suc y) n (λ z less. subst (λ (x : ℕ). ¬ T (p x)) (omega arith) (sparse y (suc z) (omega arith) (omega arith) (subst T (sym first) tt))) in
        omega arith
    go false first later = omega arith

pub count_sparse : (p : ℕ → Bool) (y g c : ℕ) → Sparse g p → count p y (c * g) ≤ c
count_sparse p y g zero sparse = let none = ap (count p y) (zero-mul g) in omega arith
count_sparse p y g (suc c) sparse =
    let whole : count p y (suc c * g) ≡ count p y (g + c * g) = ap (count p y) (omega arith) in
    let parts = count_more p y g (c * g) in
    let round = count_round p y g g sparse (omega arith) in
    let later = count_sparse p (y + g) g c sparse in
    omega arith
