-- Divisors of whole numbers, and the greatest divisor that two numbers have in common.
-- Assumes nothing.
use Rattle.std.specs.Prelude.{◌≡◌, ℕ, ◌*◌}

-- k divides n: n is c times k, for some whole c
abbrev pub Divides : ℕ → ℕ → Type 0
Divides k n = (c : ℕ) × (n ≡ c * k)

-- g is the greatest common divisor of m and n: it divides both, and every number that divides both divides it
pub record Greatest (m n g : ℕ) : Type 0 where
  pub one : Divides g m
  pub other : Divides g n
  pub every : (k : ℕ) → Divides k m → Divides k n → Divides k g
