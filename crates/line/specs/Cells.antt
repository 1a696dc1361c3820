-- How many cells a length takes, and the wire time that comes of it.
-- Assumes nothing.
use Rattle.std.specs.Prelude.{ℕ, ◌+◌, ◌-◌, ◌*◌, ◌<◌, ◌≤◌}
use Rattle.std.proofs.Common.{le-div_iff_mul-le, div-lt_iff_lt-mul, div-mul-le_self, mul-le-mul_right, arith}
use Rattle.line.specs.Times.{cells}

pub cells_some : (l z : ℕ) → 1 ≤ l → 1 ≤ z → 1 ≤ cells l z
cells_some l z l1 z1 =
    let fits : 1 * z ≤ l + (z - 1) = omega arith in
    (le-div_iff_mul-le (omega arith)).1 fits

pub cells_monotone : (l m z : ℕ) → 1 ≤ z → l ≤ m → cells l z ≤ cells m z
cells_monotone l m z z1 le =
    let below = div-mul-le_self (l + (z - 1)) z in
    let fits : cells l z * z ≤ m + (z - 1) = omega arith in
    (le-div_iff_mul-le (omega arith)).1 fits

-- the largest frame in the smallest cells
pub cells_most : (l z : ℕ) → l ≤ 4000 → 64 ≤ z → cells l z ≤ 63
cells_most l z most least =
    let above : l + (z - 1) < 64 * z = omega arith in
    let some : 0 < z = omega arith in
    let lt = (div-lt_iff_lt-mul {x = l + (z - 1)} {y = 64} some).1 above in
    omega arith

pub cells_time_most : (l z w : ℕ) → l ≤ 4000 → 64 ≤ z → w ≤ 100000 → cells l z * w ≤ 10000000
cells_time_most l z w most least few =
    let one = mul-le-mul_right w (cells_most l z most least) in
    omega arith
