-- Which octets are rate codes.
-- Assumes nothing.
use Rattle.std.proofs.Common.{◌≡◌, ℕ, zero, suc, ◌<◌, ◌≤◌, Bool, true, false, ◌||◌, ltb, leb, List, [], ◌∷◌, length, get_or, refl, arith}
use Rattle.std.proofs.lemmas.Bool.{ltb-false, leb-true, le-leb, le-ltb, and_parts, and_from, or_parts, or_from, not-true, not_from_false}
use Rattle.line.specs.Fillings.{Codes}
use Rattle.planning.specs.Lists.{any}
use Rattle.report.specs.Lines.{are_codes}

-- a code that means no rate
abbrev no_code : ℕ → Bool
no_code c = ltb c 1 || ltb 3 c

-- each element is a code
abbrev Each : List ℕ → Type 0
Each cs = (q : ℕ) → q < length cs → (1 ≤ get_or cs q 0) × (get_or cs q 0 ≤ 3)

any_no-code_false : (cs : List ℕ) → Each cs → any no_code cs ≡ false
any_no-code_false [] each = refl
any_no-code_false (c ∷ cs) each =
    let first = each 0 (omega arith) in
    or_from (no_code c) (any no_code cs) (or_from (ltb c 1) (ltb 3 c) (le-ltb c 1 first.0) (le-ltb 3 c first.1))
    (any_no-code_false cs (λ q below. each (suc q) (omega arith)))

each-code : (cs : List ℕ) → any no_code cs ≡ false → Each cs
each-code [] none q below = absurd (omega arith)
each-code (c ∷ cs) none zero below =
    let (least, most) = or_parts (ltb c 1) (ltb 3 c) (or_parts (no_code c) (any no_code cs) none).0 in
    (ltb-false c 1 least, ltb-false 3 c most)
each-code (c ∷ cs) none (suc q) below = each-code cs (or_parts (no_code c) (any no_code cs) none).1 q (omega arith)

-- codes pass the test
pub are-codes_true : (cs : List ℕ) → Codes cs → are_codes cs ≡ true
are-codes_true cs codes =
    and_from (leb 1 (length cs)) _ (le-leb 1 (length cs) codes.some)
    (and_from (leb (length cs) 32) _ (le-leb (length cs) 32 codes.few) (not_from_false (any no_code cs) (any_no-code_false cs codes.each)))

-- what passes the test are codes
codes-from : (cs : List ℕ) → are_codes cs ≡ true → Codes cs
codes-from cs pass =
    let (some, rest) = and_parts (leb 1 (length cs)) _ pass in
    let (few, none) = and_parts (leb (length cs) 32) _ rest in
    record { some = leb-true 1 (length cs) some; few = leb-true (length cs) 32 few; each = each-code cs (not-true (any no_code cs) none) }

-- what are no codes fail it
pub are-codes_false : (cs : List ℕ) → (Codes cs → ⊥) → are_codes cs ≡ false
are-codes_false cs none = go (are_codes cs) refl
  where
    go : (b : Bool) → are_codes cs ≡ b → b ≡ false
    go true pass = absurd (none (codes-from cs pass))
    go false pass = refl
