-- The route of a flow record: its port slots, packed.
use Rattle.std.proofs.Common.{◌≡◌, ℕ, zero, suc, ◌+◌, ◌*◌, ◌^◌, ◌<◌, List, [], ◌∷◌, ◌++◌, length, get_or, take, refl, ap, ◌∙◌, arith}
use Rattle.std.proofs.lemmas.Nat.{pow-add}
use Rattle.std.proofs.lemmas.List.{take_more}
use Rattle.sheet.specs.Fields.{Part, part, bits, packed, Fit}
use Rattle.sheet.specs.Flows.{route_parts}

-- each port in five bits
abbrev pub fives : List ℕ → List Part
fives [] = []
fives (p ∷ ps) = part 5 p ∷ fives ps

bits_push : (ps : List ℕ) (p : ℕ) → bits (fives (ps ++ p ∷ [])) ≡ bits (fives ps) + 5
bits_push [] p = refl
bits_push (q ∷ ps) p = let rest = bits_push ps p in omega arith

-- one slot more behind
pub fives_push : (ps : List ℕ) (p : ℕ) → packed (fives (ps ++ p ∷ [])) ≡ packed (fives ps) * 32 + p
fives_push [] p = omega arith
fives_push (q ∷ ps) p =
    let rest = fives_push ps p in
    let e = bits_push ps p in
    let power = ap (λ (y : ℕ). q * 2 ^ y) e ∙ ap (λ (y : ℕ). q * y) (pow-add 2 (bits (fives ps)) 5) in
    omega arith

pub fives_more :
    (ps : List ℕ) (i : ℕ) → i < length ps → packed (fives (take (i + 1) ps)) ≡ packed (fives (take i ps)) * 32 + get_or ps i 0
fives_more ps i h = ap (λ (l : List ℕ). packed (fives l)) (take_more ps i 0 h) ∙ fives_push (take i ps) (get_or ps i 0)

-- each slot is below 32
pub port-lt : (ps : List ℕ) (i : ℕ) → Fit (route_parts ps) → i < 8 → get_or ps i 0 < 32
port-lt ps zero f h = f.0
port-lt ps (suc zero) f h = f.1.0
port-lt ps (suc (suc zero)) f h = f.1.1.0
port-lt ps (suc (suc (suc zero))) f h = f.1.1.1.0
port-lt ps (suc (suc (suc (suc zero)))) f h = f.1.1.1.1.0
port-lt ps (suc (suc (suc (suc (suc zero))))) f h = f.1.1.1.1.1.0
port-lt ps (suc (suc (suc (suc (suc (suc zero)))))) f h = f.1.1.1.1.1.1.0
port-lt ps (suc (suc (suc (suc (suc (suc (suc zero))))))) f h = f.1.1.1.1.1.1.1.0
port-lt ps (suc (suc (suc (suc (suc (suc (suc (suc i)))))))) f h = absurd (omega arith)

-- one slot more stays below the next power
pub slot_more : (i r p : ℕ) → r < 2 ^ (5 * i) → p < 32 → r * 32 + p < 2 ^ (5 * (i + 1))
slot_more i r p low top =
    let e : 5 * (i + 1) ≡ 5 * i + 5 = omega arith in
    let power = ap (λ (y : ℕ). 2 ^ y) e ∙ pow-add 2 (5 * i) 5 in
    omega arith
