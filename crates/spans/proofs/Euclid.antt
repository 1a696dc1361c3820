-- Euclid's steps: the greatest common divisor of two numbers, and the distances that multiples of them reach.
-- Assumes nothing.
use Rattle.std.proofs.Common.{◌≡◌, ℕ, zero, suc, ◌+◌, ◌-◌, ◌*◌, ◌/◌, ◌%◌, ◌<◌, ◌≤◌, sym, ap, ◌∙◌, subst, inl, inr, mod-lt, mul_assoc, eq-zero-or-pos, div-add-mod', le-mul_of_pos_right, arith}
use native.Mathlib.Nat.{mul-sub}
use Rattle.spans.specs.Divisors.{Divides, Greatest}

pub divides-zero : (k : ℕ) → Divides k 0
divides-zero k = (0, omega arith)

pub divides_self : (k : ℕ) → Divides k k
divides_self k = (1, omega arith)

pub divides-add : (k m n : ℕ) → Divides k m → Divides k n → Divides k (m + n)
divides-add k m n one other = (one.0 + other.0, omega arith)

pub divides-mul : (k c n : ℕ) → Divides k n → Divides k (c * n)
divides-mul k c n part = (c * part.0, ap (λ (z : ℕ). c * z) part.1 ∙ sym (mul_assoc c part.0 k))

-- what divides a sum and one part divides the other part
pub divides_rest : (k m n : ℕ) → Divides k (m + n) → Divides k m → Divides k n
divides_rest k m n sum part = (sum.0 - part.0, let e = mul-sub k sum.0 part.0 in omega arith)

pub divides-le : (k n : ℕ) → Divides k n → 0 < n → k ≤ n
divides-le k n (c, e) pos =
    elim (eq-zero-or-pos c) [
      | inl none ↦ let f = ap (λ (z : ℕ). z * k) none in absurd (omega arith)
      | inr some ↦ let f = le-mul_of_pos_right k some in omega arith
    ]

pub divides_by-zero : (n : ℕ) → Divides 0 n → n ≡ 0
divides_by-zero n none = omega arith

pub divides_antisymm : (m n : ℕ) → Divides m n → Divides n m → m ≡ n
divides_antisymm zero n up down = sym (divides_by-zero n up)
divides_antisymm (suc m) zero up down = divides_by-zero (suc m) down
divides_antisymm (suc m) (suc n) up down =
    let le = divides-le (suc m) (suc n) up (omega arith) in
    let ge = divides-le (suc n) (suc m) down (omega arith) in
    omega arith

-- what divides a remainder and the divisor divides the whole
pub divides-whole : (k m n : ℕ) → Divides k n → Divides k (m % n) → Divides k m
divides-whole k m n part rest =
    subst (Divides k) (div-add-mod' m n) (divides-add k (m / n * n) (m % n) (divides-mul k (m / n) n part) rest)

pub divides-mod : (k m n : ℕ) → Divides k m → Divides k n → Divides k (m % n)
divides-mod k m n whole part =
    divides_rest k (m / n * n) (m % n) (subst (Divides k) (sym (div-add-mod' m n)) whole) (divides-mul k (m / n) n part)

-- Euclid's last step
pub greatest-zero : (m : ℕ) → Greatest m 0 m
greatest-zero m = record { one = divides_self m; other = divides-zero m; every = λ k one other. one }

-- the greatest common divisor is 0 only where both numbers are
pub greatest-none : (m n g : ℕ) → Greatest m n g → g ≡ 0 → (m ≡ 0) × (n ≡ 0)
greatest-none m n g great e = (
  divides_by-zero m (subst (λ (z : ℕ). Divides z m) e great.one),
  divides_by-zero n (subst (λ (z : ℕ). Divides z n) e great.other),
)

-- Euclid's step, up and down
pub greatest_up : (m n g : ℕ) → Greatest n (m % n) g → Greatest m n g
greatest_up m n g low =
    record {
      one = divides-whole g m n low.one low.other;
      other = low.one;
      every = λ k one other. low.every k other (divides-mod k m n one other);
    }

pub greatest_down : (m n g : ℕ) → Greatest m n g → Greatest n (m % n) g
greatest_down m n g high =
    record {
      one = high.other;
      other = divides-mod g m n high.one high.other;
      every = λ k one other. high.every k (divides-whole k m n one other) one;
    }

-- some multiples of T and U differ by as much as any two multiples of g
abbrev pub Reach : ℕ → ℕ → ℕ → Type 0
Reach T U g = (i j : ℕ) → (a : ℕ) × (b : ℕ) × (a * T + j * g ≡ b * U + i * g)

reach_multiple : (c U : ℕ) → Reach (suc c * U) U U
reach_multiple c U i j = (i, i * c + j, omega arith)

reach_step : (T U g : ℕ) → Reach U (T % U) g → Reach T U g
reach_step T U g low i j =
    let (a, b, e) = low j i in
    let f = ap (λ (z : ℕ). b * z) (div-add-mod' T U) in
    (b, a + b * (T / U), omega arith)

reach-divides : (T U g : ℕ) → 0 < T → T % U ≡ 0 → Greatest T U g → Reach T U g
reach-divides T U g pos none great = go (T / U) (omega arith)
  where
    same : U ≡ g
    same = divides_antisymm U g (great.every U (T / U, omega arith) (divides_self U)) great.other

    go : (c : ℕ) → T ≡ c * U → Reach T U g
    go zero e = absurd (omega arith)
    go (suc c) e = subst (λ (z : ℕ). Reach T U z) same (subst (λ (z : ℕ). Reach z U U) (sym e) (reach_multiple c U))

-- by Euclid's steps, as long as U is below n
reach-within : (n T U g : ℕ) → U < n → 0 < T → 0 < U → Greatest T U g → Reach T U g
reach-within zero T U g few posT posU great = absurd (omega arith)
reach-within (suc n) T U g few posT posU great =
    elim (eq-zero-or-pos (T % U)) [
      | inl none ↦ reach-divides T U g posT none great
      | inr some ↦
          let less = mod-lt T posU in
          reach_step T U g (reach-within n U (T % U) g (omega arith) posU some (greatest_down T U g great))
    ]

pub reach : (T U g : ℕ) → 0 < T → 0 < U → Greatest T U g → Reach T U g
reach T U g = reach-within (suc U) T U g (omega arith)

pub reach-other : (T U g : ℕ) → Reach T U g → Reach U T g
reach-other T U g low i j = let (a, b, e) = low j i in (b, a, sym e)
