-- A number and its fields: packed and taken apart again.
use Rattle.std.specs.Prelude.{◌≡◌, ℕ, zero, suc, ◌+◌, ◌*◌, ◌/◌, ◌%◌, ◌^◌, ◌<◌, ◌≤◌, List, [], ◌∷◌, ◌++◌, length, take, refl}
use Rattle.std.proofs.Common.{sym, ap, ◌∙◌, zero-add, div-one, mod-eq_of_lt, arith}
use Rattle.std.proofs.Math.Nat.{mod-one}
use Rattle.std.proofs.lemmas.Nat.{mod-pow-add, pow-add, div-mul-add, mul-add-lt, shr-shr}
use Rattle.sheet.specs.Fields.{Octets, number, octets, Part, part, bits, packed, Fit}
use Rattle.sheet.specs.Numbers.{field_above, number_lt, octets_tail}

abbrev pub total : List ℕ → ℕ
total [] = 0
total (n ∷ ns) = n + total ns

-- the fields of a number, given their bits
abbrev pub unpacked : List ℕ → ℕ → List Part
unpacked [] m = []
unpacked (n ∷ ns) m = part n (m / 2 ^ total ns % 2 ^ n) ∷ unpacked ns m

abbrev pub widths : List Part → List ℕ
widths [] = []
widths (f ∷ fs) = f.width ∷ widths fs

bits_unpacked : (ns : List ℕ) (m : ℕ) → bits (unpacked ns m) ≡ total ns
bits_unpacked [] m = refl
bits_unpacked (n ∷ ns) m = ap (λ (k : ℕ). n + k) (bits_unpacked ns m)

total_widths : (fs : List Part) → total (widths fs) ≡ bits fs
total_widths [] = refl
total_widths (f ∷ fs) = ap (λ (k : ℕ). f.width + k) (total_widths fs)

pub packed_unpacked : (ns : List ℕ) (m : ℕ) → packed (unpacked ns m) ≡ m % 2 ^ total ns
packed_unpacked [] m = sym (mod-one m)
packed_unpacked (n ∷ ns) m =
    rw (bits_unpacked ns m, packed_unpacked ns m) (sym (mod-pow-add m n (total ns)))

pub packed_lt : (fs : List Part) → Fit fs → packed fs < 2 ^ bits fs
packed_lt [] f = omega arith
packed_lt (p ∷ fs) f =
    let low = packed_lt fs f.1 in
    let both = mul-add-lt p.value (2 ^ bits fs) (packed fs) (2 ^ p.width) f.0 low in
    let e = pow-add 2 p.width (bits fs) in
    omega arith

unpacked_above : (ns : List ℕ) (a b m : ℕ) → total ns ≤ b → unpacked ns (a * 2 ^ b + m) ≡ unpacked ns m
unpacked_above [] a b m le = refl
unpacked_above (n ∷ ns) a b m le =
    let rest : total ns ≤ b = omega arith in
    let here = field_above a m b (total ns) n le in
    let there = unpacked_above ns a b m rest in
    cc

pub unpacked_packed : (fs : List Part) → Fit fs → unpacked (widths fs) (packed fs) ≡ fs
unpacked_packed [] f = refl
unpacked_packed (p ∷ fs) f =
    let t = total_widths fs in
    let le : total (widths fs) ≤ bits fs = omega arith in
    let top = div-mul-add p.value (2 ^ bits fs) (packed fs) (packed_lt fs f.1) in
    let value = ap (λ (y : ℕ). y % 2 ^ p.width) top ∙ mod-eq_of_lt f.0 in
    let here : (p.value * 2 ^ bits fs + packed fs) / 2 ^ total (widths fs) % 2 ^ p.width ≡ p.value = rw t value in
    let there = unpacked_above (widths fs) p.value (bits fs) (packed fs) le ∙ unpacked_packed fs f.1 in
    λ i. record { width = p.width; value = here i } ∷ there i

pub length_octets : (z m : ℕ) → length (octets z m) ≡ z
length_octets zero m = refl
length_octets (suc z) m = ap suc (length_octets z m)

pub number_octets : (z m : ℕ) → number (octets z m) ≡ m % 2 ^ (8 * z)
number_octets zero m = sym (mod-one m)
number_octets (suc z) m =
    let e : 8 * suc z ≡ 8 + 8 * z = omega arith in
    rw (length_octets z m, number_octets z m, e) (sym (mod-pow-add m 8 (8 * z)))

pub octets_above : (z k a m : ℕ) → z ≤ k → octets z (a * 2 ^ (8 * k) + m) ≡ octets z m
octets_above zero k a m le = refl
octets_above (suc z) k a m le =
    let rest : z ≤ k = omega arith in
    let wide : 8 + 8 * z ≤ 8 * k = omega arith in
    let here = field_above a m (8 * k) (8 * z) 8 wide in
    let there = octets_above z k a m rest in
    cc

pub octets_number : (s : List ℕ) → Octets s → octets (length s) (number s) ≡ s
octets_number [] o = refl
octets_number (x ∷ s) o =
    let tail = octets_tail x s o in
    let top = div-mul-add x (2 ^ (8 * length s)) (number s) (number_lt s tail) in
    let here = ap (λ (y : ℕ). y % 256) top ∙ mod-eq_of_lt (o 0) in
    let le : length s ≤ length s = omega arith in
    let there = octets_above (length s) (length s) x (number s) le ∙ octets_number s tail in
    λ i. here i ∷ there i

-- the fields of what was written are the ones that were packed
pub unpacked_octets :
    (z : ℕ) (fs : List Part) → Fit fs → bits fs ≡ 8 * z → unpacked (widths fs) (number (octets z (packed fs))) ≡ fs
unpacked_octets z fs f e =
    ap (unpacked (widths fs))
    (number_octets z (packed fs) ∙ ap (λ (k : ℕ). packed fs % 2 ^ k) (sym e) ∙ mod-eq_of_lt (packed_lt fs f))
    ∙ unpacked_packed fs f

-- the fields of some octets, packed, are those octets
pub octets_packed :
    (z : ℕ) (ns : List ℕ) (s : List ℕ) → Octets s → length s ≡ z → total ns ≡ 8 * z → octets z (packed (unpacked ns (number s))) ≡ s
octets_packed z ns s o l e =
    let low = number_lt s o in
    let size = l in
    let exponent : 8 * length s ≡ total ns = omega arith in
    let small : number s < 2 ^ total ns = rw (← exponent) low in
    ap (octets z) (packed_unpacked ns (number s) ∙ mod-eq_of_lt small) ∙ rw (← l) (octets_number s o)

bits_append : (fs gs : List Part) → bits (fs ++ gs) ≡ bits fs + bits gs
bits_append [] gs = omega arith
bits_append (f ∷ fs) gs = let rest = bits_append fs gs in omega arith

pub packed_append : (fs gs : List Part) → packed (fs ++ gs) ≡ packed fs * 2 ^ bits gs + packed gs
packed_append [] gs = omega arith
packed_append (f ∷ fs) gs =
    let rest = packed_append fs gs in
    let power = ap (λ (y : ℕ). f.value * 2 ^ y) (bits_append fs gs) ∙ ap (λ (y : ℕ). f.value * y) (pow-add 2 (bits fs) (bits gs)) in
    omega arith

-- the octets of a number, the first of them from what stands above the last b
pub octets_split : (a b m : ℕ) → octets (a + b) m ≡ octets a (m / 2 ^ (8 * b)) ++ octets b m
octets_split zero b m = rw zero-add
octets_split (suc a) b m =
    let e : suc a + b ≡ suc (a + b) = omega arith in
    let exponent : 8 * (a + b) ≡ 8 * b + 8 * a = omega arith in
    let here = ap (λ (y : ℕ). m / 2 ^ y % 256) exponent ∙ ap (λ (y : ℕ). y % 256) (sym (shr-shr m (8 * b) (8 * a))) in
    rw e (λ i. here i ∷ octets_split a b m i)

-- the last octet of a number is its remainder
pub octets_last : (z m : ℕ) → take z (octets (suc z) m) ++ (m % 256 ∷ []) ≡ octets (suc z) m
octets_last zero m = ap (λ (y : ℕ). y % 256 ∷ []) (sym (div-one m))
octets_last (suc z) m = ap (λ (t : List ℕ). m / 2 ^ (8 * suc z) % 256 ∷ t) (octets_last z m)
