-- A length over the size of a cell, rounded up, is the number of cells, and the product of such a number and the time of a cell stays small.
-- Assumes nothing.
use Rattle.std.proofs.Common.{◌≡◌, ℕ, ◌+◌, ◌-◌, ◌*◌, ◌/◌, ◌<◌, ◌≤◌, le-div_iff_mul-le, div-lt_iff_lt-mul, mul-le-mul_right, arith}
use Rattle.std.proofs.lemmas.Grind.{div_ceil_times}
use Rattle.std.specs.Int.{div_ceil}
use Rattle.line.specs.Times.{cells}

pub div_ceil-is : (l z : ℕ) → 0 < z → div_ceil l z ≡ cells l z
div_ceil-is l z some =
    let d : ℕ = div_ceil l z in
    let times = div_ceil_times l z some in
    let fits : d * z ≤ l + (z - 1) = omega arith in
    let over : l + (z - 1) < (d + 1) * z = omega arith in
    let least = (le-div_iff_mul-le {x = d} {y = l + (z - 1)} some).1 fits in
    let most = (div-lt_iff_lt-mul {x = l + (z - 1)} {y = d + 1} some).1 over in
    omega arith

-- n octets, fewer than 64 cells hold, in cells of z octets and w ns
pub cell_product_most : (n z w : ℕ) → n < 64 * z → w ≤ 100000 → n / z * w ≤ 6400000
cell_product_most n z w above few =
    let some : 0 < z = omega arith in
    let lt = (div-lt_iff_lt-mul {x = n} {y = 64} some).1 above in
    let most : n / z ≤ 63 = omega arith in
    let one = mul-le-mul_right w most in
    omega arith
