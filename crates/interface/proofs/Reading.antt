-- Numbers and calls read from octets, and lists of calls one by one.
-- Assumes nothing.
use Rattle.std.proofs.Common.{◌≡◌, ◌≢◌, ℕ, zero, suc, ◌+◌, ◌*◌, ◌<◌, ◌≤◌, Bool, true, false, cond, eqb, leb, List, [], ◌∷◌, length, get_or, take, drop, Some, None, Ok, Option, Result, sym, refl, ap, ◌∙◌, subst, arith, length-drop}
use Rattle.std.proofs.lemmas.Bool.{le-leb, cond-true}
use Rattle.sheet.specs.Fields.{number}
use Rattle.sheet.specs.Elements.{listed}
use Rattle.plan.specs.declared.call.Call.{Call}
use Rattle.interface.specs.declared.unperformed.Unperformed.{Unperformed}
use Rattle.interface.specs.Spoken.{ReadsNext, Spoken, Front, spoken, turned, and_then, octets_of, number_of, sheet_of, call_of, first_call, before, calls_within, calls_of, set_up, offer, withdrawal, start_of, gate_list}

-- four and eight octets as a number
pub number_4 : (s : List ℕ) → length s ≡ 4 → number s ≡ get_or s 0 0 * 16777216 + get_or s 1 0 * 65536 + get_or s 2 0 * 256 + get_or s 3 0
number_4 s long = ap number (listed 4 s long) ∙ omega arith

pub number_8 : (s : List ℕ) → length s ≡ 8 →
    number s ≡ get_or s 0 0 * 72057594037927936 + get_or s 1 0 * 281474976710656 + get_or s 2 0 * 1099511627776 + get_or s 3 0 * 4294967296 + get_or s 4 0 * 16777216 + get_or s 5 0 * 65536 + get_or s 6 0 * 256 + get_or s 7 0
number_8 s long = ap number (listed 8 s long) ∙ omega arith

pub octets-cut : (n : ℕ) (s : List ℕ) → n ≤ length s → octets_of n s ≡ Some (take n s, drop n s)
octets-cut n s le = cond-true {A = Front (List ℕ)} (leb n (length s)) _ _ (le-leb n (length s) le)

-- the number of the first n octets is the number that is read
pub number_of-cut : (n : ℕ) (s front rest : List ℕ) → front ≡ take n s → rest ≡ drop n s → n ≤ length s → number_of n s ≡ Some (number front, rest)
number_of-cut n s front rest is behind long =
    ap (turned number) (octets-cut n s long) ∙ (λ i. Some (number (sym is i), sym behind i))

-- what is read leaves no more octets than there were
abbrev Leaves : {A : Type 0} → List ℕ → Front A → Type 0
Leaves s None = Unit {0}
Leaves s (Some (x, rest)) = length rest ≤ length s

octets_leave : (n : ℕ) (s : List ℕ) → Leaves s (octets_of n s)
octets_leave n s = go (leb n (length s))
  where
    go : (b : Bool) → Leaves s (cond {A = Front (List ℕ)} b (Some (take n s, drop n s)) None)
    go true = let less = length-drop n s in omega arith
    go false = tt

turned_leaves : {A B : Type 0} (f : A → B) (s : List ℕ) (x : Front A) → Leaves s x → Leaves s (turned f x)
turned_leaves f s None h = tt
turned_leaves f s (Some (x, rest)) h = h

then_leaves : {A B : Type 0} (s : List ℕ) (x : Front A) (next : A → List ℕ → Front B) → Leaves s x → ((a : A) (rest : List ℕ) → Leaves rest (next a rest)) → Leaves s (and_then x next)
then_leaves s None next h k = tt
then_leaves {B = B} s (Some (x, rest)) next h k = further (next x rest) (k x rest)
  where
    further : (y : Front B) → Leaves rest y → Leaves s y
    further None l = tt
    further (Some (y, behind)) l = omega arith

number_leaves : (n : ℕ) (s : List ℕ) → Leaves s (number_of n s)
number_leaves n s = turned_leaves number s (octets_of n s) (octets_leave n s)

sheet_leaves : (s : List ℕ) → Leaves s (sheet_of s)
sheet_leaves s = then_leaves s (number_of 2 s) octets_of (number_leaves 2 s) octets_leave

-- one of two ways
either_leaves : (s : List ℕ) (b : Bool) (x y : Front Spoken) → Leaves s x → Leaves s y → Leaves s (cond b x y)
either_leaves s true x y h k = h
either_leaves s false x y h k = k

call_leaves : (kind : ℕ) (s : List ℕ) → Leaves s (call_of kind s)
call_leaves kind s =
    either_leaves s (eqb kind 1) _ _ (then_leaves s (number_of 4 s) _ (number_leaves 4 s) (λ C rest. turned_leaves (set_up C) rest (sheet_of rest) (sheet_leaves rest)))
    (either_leaves s (eqb kind 2) _ _ (then_leaves s (number_of 8 s) _ (number_leaves 8 s) (λ k rest. turned_leaves (offer k) rest (sheet_of rest) (sheet_leaves rest)))
    (either_leaves s (eqb kind 3) _ _ (turned_leaves withdrawal s (number_of 2 s) (number_leaves 2 s))
    (either_leaves s (eqb kind 4) _ _ (turned_leaves start_of s (number_of 2 s) (number_leaves 2 s))
    (either_leaves s (eqb kind 5) _ _ (omega arith)
    (either_leaves s (eqb kind 6) _ None (turned_leaves gate_list s (number_of 1 s) (number_leaves 1 s)) tt)))))

-- a call takes an octet or more
pub first_shorter : (s : List ℕ) (c : Spoken) (rest : List ℕ) → ◌≡◌ {A = Front Spoken} (Some (c, rest)) (first_call s) → length rest < length s
first_shorter [] c rest is = absurd (let z : ◌≡◌ {A = ℕ} 0 1 = cc in omega arith)
first_shorter (x ∷ s) c rest is = let less = subst (Leaves s) (sym is) (call_leaves x s) in omega arith

-- a call that the iterator gives is the first
pub first_call-next : (s : List ℕ) (r : Result Call Unperformed) (c : Call) (rest : List ℕ) → r ≡ Ok c → ReadsNext s (Some r) rest → ◌≡◌ {A = Front Spoken} (Some (spoken c, rest)) (first_call s)
first_call-next s r c rest is read = subst (λ (x : Result Call Unperformed). ReadsNext s (Some x) rest) is read

-- more calls than there are octets change nothing
calls_enough : (n m : ℕ) (s : List ℕ) → length s ≤ n → length s ≤ m → calls_within n s ≡ calls_within m s
calls_enough zero zero [] a b = refl
calls_enough zero (suc m) [] a b = refl
calls_enough (suc n) zero [] a b = refl
calls_enough (suc n) (suc m) [] a b = refl
calls_enough zero zero (x ∷ s) a b = refl
calls_enough zero (suc m) (x ∷ s) a b = absurd (omega arith)
calls_enough (suc n) zero (x ∷ s) a b = absurd (omega arith)
calls_enough (suc n) (suc m) (x ∷ s) a b = go (call_of x s) (call_leaves x s) (λ rest less. calls_enough n m rest (omega arith) (omega arith))
  where
    go : (r : Front Spoken) → Leaves s r → ((rest : List ℕ) → length rest ≤ length s → calls_within n rest ≡ calls_within m rest) →
        elim r as (λ _. Option (List Spoken)) [ None ↦ None | Some (c, rest) ↦ before c (calls_within n rest) ] ≡ elim r as (λ _. Option (List Spoken)) [ None ↦ None | Some (c, rest) ↦ before c (calls_within m rest) ]
    go None l same = refl
    go (Some (c, rest)) l same = ap (before c) (same rest l)

-- the first call before the others
pub calls-first : (s : List ℕ) (c : Spoken) (rest : List ℕ) → ◌≡◌ {A = Front Spoken} (Some (c, rest)) (first_call s) → calls_of s ≡ before c (calls_of rest)
calls-first [] c rest is = absurd (let z : ◌≡◌ {A = ℕ} 0 1 = cc in omega arith)
calls-first (x ∷ s) c rest is =
    let less = first_shorter (x ∷ s) c rest is in
    ap (λ (r : Front Spoken). elim r as (λ _. Option (List Spoken)) [ None ↦ None | Some (d, behind) ↦ before d (calls_within (length s) behind) ]) (sym is)
    ∙ ap (before c) (calls_enough (length s) (length rest) rest (omega arith) (omega arith))

-- octets with no call at the front
pub calls-none : (s : List ℕ) → s ≢ [] → ◌≡◌ {A = Front Spoken} None (first_call s) → calls_of s ≡ None
calls-none [] some is = absurd (some refl)
calls-none (x ∷ s) some is = ap (λ (r : Front Spoken). elim r as (λ _. Option (List Spoken)) [ None ↦ None | Some (d, behind) ↦ before d (calls_within (length s) behind) ]) (sym is)
