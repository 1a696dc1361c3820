-- The distance formula: whether spans that repeat share an instant, as a test that computes.
-- Assumes nothing.
use Rattle.std.specs.Prelude.{ℕ, zero, suc, ◌-◌, ◌%◌, Bool, true, false, ◌&&◌, ◌||◌, ◌==◌, nat_lt}
use Rattle.spans.specs.Places.{ahead}

-- at most k of Euclid's steps
abbrev pub euclid : ℕ → ℕ → ℕ → ℕ
euclid zero m n = m
euclid (suc k) m n = elim (n == 0) [ true ↦ m | false ↦ euclid k n (m % n) ]

-- the greatest common divisor; the second number falls with each step, so that many steps suffice
unfoldable pub gcd : ℕ → ℕ → ℕ
gcd m n = euclid n m n

-- round a circle of g, the gcd of the periods, the one with wire time v begins r after the other, which lasts w
unfoldable pub shares : ℕ → ℕ → ℕ → ℕ → ℕ → ℕ → Bool
shares x T v y U w =
    let g = gcd T U in
    let r = ahead g x y in
    (nat_lt 0 v && nat_lt 0 w) && (nat_lt r w || nat_lt (g - r) v)
