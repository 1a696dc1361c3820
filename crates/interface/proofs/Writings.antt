-- Calls that are written are read back, and octets are read as no other calls than those they are written from.
-- Assumes nothing.
use Rattle.std.proofs.Common.{◌≡◌, ℕ, zero, suc, ◌*◌, ◌^◌, ◌<◌, Bool, true, false, cond, eqb, leb, List, [], ◌∷◌, ◌++◌, length, take, drop, Some, None, Option, sym, refl, ap, ◌∙◌, subst, mod-eq_of_lt, arith, take-append-drop}
use lib.Seq.{take-append_seam, drop-append_seam}
use Rattle.std.proofs.lemmas.List.{append_assoc, length-append, length-take-le}
use Rattle.std.proofs.lemmas.Bool.{leb-true, eqb-true}
use Rattle.sheet.specs.Fields.{Octets, number, octets}
use Rattle.sheet.specs.Numbers.{octets_tail, octets_drop}
use Rattle.sheet.specs.Packed.{length_octets, number_octets, octets_number}
use Rattle.interface.specs.Spoken.{Spoken, Front, turned, and_then, octets_of, number_of, sheet_of, call_of, first_call, before, calls_within, set_up, offer, withdrawal, start_of, flowspan, gate_list}
use Rattle.interface.specs.Writings.{sheet_octets, call_octets, calls_octets, Fits, ReadBack, ReadOnly}
use Rattle.interface.proofs.Reading.{octets-cut, calls-first}

octets_back : (n : ℕ) (s rest : List ℕ) → length s ≡ n → octets_of n (s ++ rest) ≡ Some (s, rest)
octets_back n s rest long =
    let whole = length-append s rest in
    let first : take n (s ++ rest) ≡ s = ap (λ (k : ℕ). take k (s ++ rest)) (sym long) ∙ take-append_seam s rest in
    let last : drop n (s ++ rest) ≡ rest = ap (λ (k : ℕ). drop k (s ++ rest)) (sym long) ∙ drop-append_seam s rest in
    octets-cut n (s ++ rest) (omega arith) ∙ (λ i. Some (first i, last i))

number_back : (n v : ℕ) (rest : List ℕ) → v < 2 ^ (8 * n) → number_of n (octets n v ++ rest) ≡ Some (v, rest)
number_back n v rest fits =
    let same : number (octets n v) ≡ v = number_octets n v ∙ mod-eq_of_lt fits in
    ap (turned number) (octets_back n (octets n v) rest (length_octets n v)) ∙ (λ i. Some (same i, rest))

sheet_back : (s rest : List ℕ) → length s < 2 ^ 16 → sheet_of (sheet_octets s ++ rest) ≡ Some (s, rest)
sheet_back s rest fits =
    ap sheet_of (append_assoc (octets 2 (length s)) s rest)
    ∙ ap (λ (f : Front ℕ). and_then f octets_of) (number_back 2 (length s) (s ++ rest) fits)
    ∙ octets_back (length s) s rest refl

call_back : (c : Spoken) (rest : List ℕ) → Fits c → first_call (call_octets c ++ rest) ≡ Some (c, rest)
call_back (set_up C s) rest fits =
    let next : ℕ → List ℕ → Front Spoken = λ k x. turned (set_up k) (sheet_of x) in
    ap (λ (x : List ℕ). and_then (number_of 4 x) next) (append_assoc (octets 4 C) (sheet_octets s) rest)
    ∙ ap (λ (f : Front ℕ). and_then f next) (number_back 4 C (sheet_octets s ++ rest) fits.0)
    ∙ ap (turned (set_up C)) (sheet_back s rest fits.1)
call_back (offer k s) rest fits =
    let next : ℕ → List ℕ → Front Spoken = λ j x. turned (offer j) (sheet_of x) in
    ap (λ (x : List ℕ). and_then (number_of 8 x) next) (append_assoc (octets 8 k) (sheet_octets s) rest)
    ∙ ap (λ (f : Front ℕ). and_then f next) (number_back 8 k (sheet_octets s ++ rest) fits.0)
    ∙ ap (turned (offer k)) (sheet_back s rest fits.1)
call_back (withdrawal n) rest fits = ap (turned withdrawal) (number_back 2 n rest fits)
call_back (start_of n) rest fits = ap (turned start_of) (number_back 2 n rest fits)
call_back flowspan rest fits = refl
call_back (gate_list q) rest fits = ap (turned gate_list) (number_back 1 q rest fits)

pub read_back : ReadBack
read_back [] fit = refl
read_back (c ∷ cs) fit = calls-first (calls_octets (c ∷ cs)) c (calls_octets cs) (sym (call_back c (calls_octets cs) fit.0)) ∙ ap (before c) (read_back cs fit.1)

-- what is read and what is left behind it, written again, are the octets
abbrev Written : {A : Type 0} → (A → List ℕ) → List ℕ → Front A → Type 0
Written write s None = Unit {0}
Written write s (Some (x, rest)) = (s ≡ write x ++ rest) × Octets rest

octets-take : (n : ℕ) (s : List ℕ) → Octets s → Octets (take n s)
octets-take zero s o i = omega arith
octets-take (suc n) [] o i = omega arith
octets-take (suc n) (x ∷ s) o zero = o 0
octets-take (suc n) (x ∷ s) o (suc i) = octets-take n s (octets_tail x s o) i

number-written : (n : ℕ) (s : List ℕ) → Octets s → Written (octets n) s (number_of n s)
number-written n s o = go (leb n (length s)) refl
  where
    go : (b : Bool) → leb n (length s) ≡ b → Written (octets n) s (turned number (cond {A = Front (List ℕ)} b (Some (take n s, drop n s)) None))
    go true is =
        let long = length-take-le n s (leb-true n (length s) is) in
        let same : octets n (number (take n s)) ≡ take n s = ap (λ (k : ℕ). octets k (number (take n s))) (sym long) ∙ octets_number (take n s) (octets-take n s o) in
        (sym (take-append-drop n s) ∙ ap (λ (x : List ℕ). x ++ drop n s) (sym same), octets_drop n s o)
    go false is = tt

-- a sheet behind its length
rest-written : (l : ℕ) (s rest : List ℕ) → s ≡ octets 2 l ++ rest → Octets rest → Written sheet_octets s (octets_of l rest)
rest-written l s rest is o = go (leb l (length rest)) refl
  where
    go : (b : Bool) → leb l (length rest) ≡ b → Written sheet_octets s (cond {A = Front (List ℕ)} b (Some (take l rest, drop l rest)) None)
    go true le =
        let long = length-take-le l rest (leb-true l (length rest) le) in (
          is ∙ ap (λ (x : List ℕ). octets 2 l ++ x) (sym (take-append-drop l rest)) ∙ sym (append_assoc (octets 2 l) (take l rest) (drop l rest))
              ∙ ap (λ (k : ℕ). (octets 2 k ++ take l rest) ++ drop l rest) (sym long),
          octets_drop l rest o,
        )
    go false le = tt

sheet-written : (s : List ℕ) → Octets s → Written sheet_octets s (sheet_of s)
sheet-written s o = go (number_of 2 s) (number-written 2 s o)
  where
    go : (f : Front ℕ) → Written (octets 2) s f → Written sheet_octets s (and_then f octets_of)
    go None w = tt
    go (Some (l, rest)) w = rest-written l s rest w.0 w.1

-- a call of one number behind its kind
one_written : (kind n : ℕ) (make : ℕ → Spoken) (s : List ℕ) → ((v : ℕ) → call_octets (make v) ≡ kind ∷ octets n v) → Octets s → Written call_octets (kind ∷ s) (turned make (number_of n s))
one_written kind n make s is o = go (number_of n s) (number-written n s o)
  where
    go : (f : Front ℕ) → Written (octets n) s f → Written call_octets (kind ∷ s) (turned make f)
    go None w = tt
    go (Some (v, rest)) w = (ap (λ (x : List ℕ). kind ∷ x) w.0 ∙ ap (λ (x : List ℕ). x ++ rest) (sym (is v)), w.1)

-- a call of a number and a sheet behind its kind
two-written : (kind n : ℕ) (make : ℕ → List ℕ → Spoken) (s : List ℕ) → ((v : ℕ) (x : List ℕ) → call_octets (make v x) ≡ kind ∷ (octets n v ++ sheet_octets x)) → Octets s →
    Written call_octets (kind ∷ s) (and_then (number_of n s) (λ v rest. turned (make v) (sheet_of rest)))
two-written kind n make s is o = go (number_of n s) (number-written n s o)
  where
    behind : (v : ℕ) (rest : List ℕ) → s ≡ octets n v ++ rest → (f : Front (List ℕ)) → Written sheet_octets rest f → Written call_octets (kind ∷ s) (turned (make v) f)
    behind v rest front None w = tt
    behind v rest front (Some (x, last)) w = (
      ap (λ (y : List ℕ). kind ∷ y) (front ∙ ap (λ (y : List ℕ). octets n v ++ y) w.0 ∙ sym (append_assoc (octets n v) (sheet_octets x) last))
          ∙ ap (λ (y : List ℕ). y ++ last) (sym (is v x)),
      w.1,
    )

    go : (f : Front ℕ) → Written (octets n) s f → Written call_octets (kind ∷ s) (and_then f (λ v rest. turned (make v) (sheet_of rest)))
    go None w = tt
    go (Some (v, rest)) w = behind v rest w.0 (sheet_of rest) (sheet-written rest w.1)

call-written : (kind : ℕ) (s : List ℕ) → Octets s → Written call_octets (kind ∷ s) (call_of kind s)
call-written kind s o =
    either 1 _ _ (two-written 1 4 set_up s (λ v x. refl) o)
    (either 2 _ _ (two-written 2 8 offer s (λ v x. refl) o)
    (either 3 _ _ (one_written 3 2 withdrawal s (λ v. refl) o)
    (either 4 _ _ (one_written 4 2 start_of s (λ v. refl) o)
    (either 5 _ _ (refl, o)
    (either 6 _ None (one_written 6 1 gate_list s (λ v. refl) o) tt)))))
  where
    either : (k : ℕ) (x y : Front Spoken) → Written call_octets (k ∷ s) x → Written call_octets (kind ∷ s) y → Written call_octets (kind ∷ s) (cond (eqb kind k) x y)
    either k x y this other = go (eqb kind k) refl
      where
        go : (b : Bool) → eqb kind k ≡ b → Written call_octets (kind ∷ s) (cond b x y)
        go true is = subst (λ (j : ℕ). Written call_octets (j ∷ s) x) (sym (eqb-true kind k is)) this
        go false is = other

read-within : (n : ℕ) (s : List ℕ) (cs : List Spoken) → Octets s → calls_within n s ≡ Some cs → s ≡ calls_octets cs
read-within zero [] cs o is = let none : [] ≡ cs = cc in ap calls_octets none
read-within (suc n) [] cs o is = let none : [] ≡ cs = cc in ap calls_octets none
read-within zero (x ∷ s) cs o is = absurd (let z : ◌≡◌ {A = ℕ} 0 1 = cc in omega arith)
read-within (suc n) (x ∷ s) cs o is = go (call_of x s) (call-written x s (octets_tail x s o)) (λ rest ds. read-within n rest ds) is
  where
    behind : (c : Spoken) (rest : List ℕ) (later : Option (List Spoken)) → ((ds : List Spoken) → later ≡ Some ds → rest ≡ calls_octets ds) → before c later ≡ Some cs → call_octets c ++ rest ≡ calls_octets cs
    behind c rest None reads all = absurd (let z : ◌≡◌ {A = ℕ} 0 1 = cc in omega arith)
    behind c rest (Some ds) reads all = let whole : c ∷ ds ≡ cs = cc in ap (λ (y : List ℕ). call_octets c ++ y) (reads ds refl) ∙ ap calls_octets whole

    go : (f : Front Spoken) → Written call_octets (x ∷ s) f → ((rest : List ℕ) (ds : List Spoken) → Octets rest → calls_within n rest ≡ Some ds → rest ≡ calls_octets ds) →
        elim f as (λ _. Option (List Spoken)) [ None ↦ None | Some (c, rest) ↦ before c (calls_within n rest) ] ≡ Some cs → x ∷ s ≡ calls_octets cs
    go None w reads all = absurd (let z : ◌≡◌ {A = ℕ} 0 1 = cc in omega arith)
    go (Some (c, rest)) w reads all = w.0 ∙ behind c rest (calls_within n rest) (λ ds. reads rest ds w.1) all

pub read_only : ReadOnly
read_only s cs o is = read-within (length s) s cs o is
