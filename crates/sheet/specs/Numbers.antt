-- Octets as one number: the number of a part, the field of a number.
use Rattle.std.specs.Prelude.{◌≡◌, ℕ, suc, ◌+◌, ◌-◌, ◌*◌, ◌/◌, ◌%◌, ◌^◌, ◌<◌, ◌≤◌, List, [], ◌∷◌, ◌++◌, length, take, drop, slice_index}
use Rattle.std.proofs.Common.{sym, ap, ◌∙◌, mul_assoc, arith, pow_mono, length-append, length-take, length-drop}
use Rattle.std.proofs.Math.Nat.{mul-add-mod_self_right}
use Rattle.std.proofs.lemmas.Nat.{field_of, pow-add, div-mul-add, mul-add-lt, shr-shr}
use Rattle.std.proofs.lemmas.List.{take-append-drop, get_or-drop, take_more}
use Rattle.std.proofs.lemmas.Slice.{between_is}
use Rattle.sheet.specs.Fields.{Octets, number, field}

-- a field of a number below bit m has nothing of what stands from bit m on
pub field_above : (a x m p n : ℕ) → n + p ≤ m → (a * 2 ^ m + x) / 2 ^ p % 2 ^ n ≡ x / 2 ^ p % 2 ^ n
field_above a x m p n le =
    sym (field_of (a * 2 ^ m + x) n p) ∙ ap (λ (y : ℕ). y / 2 ^ p) low ∙ field_of x n p
  where
    split : 2 ^ m ≡ 2 ^ (m - (n + p)) * 2 ^ (n + p)
    split =
        let e : m ≡ m - (n + p) + (n + p) = omega arith in
        ap (λ (y : ℕ). 2 ^ y) e ∙ pow-add 2 (m - (n + p)) (n + p)

    low : (a * 2 ^ m + x) % 2 ^ (n + p) ≡ x % 2 ^ (n + p)
    low =
        ap (λ (y : ℕ). (a * y + x) % 2 ^ (n + p)) split
        ∙ ap (λ (y : ℕ). (y + x) % 2 ^ (n + p)) (sym (mul_assoc a (2 ^ (m - (n + p))) (2 ^ (n + p))))
        ∙ mul-add-mod_self_right (a * 2 ^ (m - (n + p))) (2 ^ (n + p)) x

-- the octets behind the first are octets
pub octets_tail : (x : ℕ) (s : List ℕ) → Octets (x ∷ s) → Octets s
octets_tail x s o i = o (suc i)

pub number_lt : (s : List ℕ) → Octets s → number s < 2 ^ (8 * length s)
number_lt [] o = omega arith
number_lt (x ∷ s) o =
    let low = number_lt s (octets_tail x s o) in
    let top = o 0 in
    let e : 8 * suc (length s) ≡ 8 + 8 * length s = omega arith in
    let both = mul-add-lt x (2 ^ (8 * length s)) (number s) 256 top low in
    let p = ap (λ (y : ℕ). 2 ^ y) e ∙ pow-add 2 8 (8 * length s) in
    omega arith

pub number_append : (s t : List ℕ) → number (s ++ t) ≡ number s * 2 ^ (8 * length t) + number t
number_append [] t = omega arith
number_append (x ∷ s) t =
    let rest = number_append s t in
    let l = length-append s t in
    let e : 8 * length (s ++ t) ≡ 8 * length s + 8 * length t = omega arith in
    let p = ap (λ (y : ℕ). x * 2 ^ y) e ∙ ap (λ (y : ℕ). x * y) (pow-add 2 (8 * length s) (8 * length t)) in
    omega arith

-- the octets from an index on are octets
pub octets_drop : (n : ℕ) (s : List ℕ) → Octets s → Octets (drop n s)
octets_drop n s o i = rw (get_or-drop n s i 0) (o (n + i))

-- what stands before the last octets
pub number_front : (e : ℕ) (s : List ℕ) → Octets s → number s / 2 ^ (8 * (length s - e)) ≡ number (take e s)
number_front e s o =
    let split = ap number (sym (take-append-drop e s)) ∙ number_append (take e s) (drop e s) in
    let low = number_lt (drop e s) (octets_drop e s o) in
    rw (← length-drop e s)
    (ap (λ (y : ℕ). y / 2 ^ (8 * length (drop e s))) split
    ∙ div-mul-add (number (take e s)) (2 ^ (8 * length (drop e s))) (number (drop e s)) low)

-- a field lies in the octets from the one of its first bit to the one of its last
pub number_between :
    (s : List ℕ) (b n e : ℕ) → Octets s → b + n ≤ 8 * e → e ≤ length s
    → number (take (e - b / 8) (drop (b / 8) s)) / 2 ^ (8 * e - (b + n)) % 2 ^ n ≡ field (length s) b n s
number_between s b n e o inside whole =
    sym
    (ap (λ (y : ℕ). number s / 2 ^ y % 2 ^ n) exponent
    ∙ ap (λ (y : ℕ). y % 2 ^ n) (sym (shr-shr (number s) (8 * (length s - e)) (8 * e - (b + n))))
    ∙ ap (λ (y : ℕ). y / 2 ^ (8 * e - (b + n)) % 2 ^ n) (number_front e s o ∙ parts)
    ∙ field_above (number (take (b / 8) (take e s))) (number middle) (8 * length middle) (8 * e - (b + n)) n wide)
  where
    middle : List ℕ
    middle = take (e - b / 8) (drop (b / 8) s)

    exponent : 8 * length s - b - n ≡ 8 * (length s - e) + (8 * e - (b + n))
    exponent = omega arith

    long : length middle ≡ e - b / 8
    long = simp (length-take, length-drop) (omega arith)

    wide : n + (8 * e - (b + n)) ≤ 8 * length middle
    wide = let l = long in omega arith

    parts : number (take e s) ≡ number (take (b / 8) (take e s)) * 2 ^ (8 * length middle) + number middle
    parts =
        ap number (sym (take-append-drop (b / 8) (take e s)))
        ∙ rw (between_is s (b / 8) e) (number_append (take (b / 8) (take e s)) (drop (b / 8) (take e s)))

-- one octet more
pub number_more : (s : List ℕ) (i : ℕ) → i < length s → number (take (i + 1) s) ≡ number (take i s) * 256 + slice_index s i
number_more s i h =
    let one = number_append (take i s) (slice_index s i ∷ []) in
    ap number (take_more s i 0 h) ∙ omega arith

-- one octet more stays below the next power
pub octet_more : (i w x : ℕ) → w < 2 ^ (8 * i) → x < 256 → w * 256 + x < 2 ^ (8 * (i + 1))
octet_more i w x low top =
    let e : 8 * (i + 1) ≡ 8 * i + 8 = omega arith in
    let p = ap (λ (y : ℕ). 2 ^ y) e ∙ pow-add 2 (8 * i) 8 in
    omega arith

-- eight octets fit a word
pub word_fits : (i w : ℕ) → w < 2 ^ (8 * i) → i ≤ 8 → w < 2 ^ 64
word_fits i w low few =
    let k : 8 * i ≤ 64 = omega arith in
    let p = pow_mono k in
    omega arith
