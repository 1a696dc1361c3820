-- How many calls there are, one by one.
-- Assumes nothing.
use Rattle.std.proofs.Common.{◌≡◌, ℕ, ◌+◌, ◌≤◌, true, List, [], ◌∷◌, length, Some, None, Ok, Err, Option, Result, sym, refl, ap, ◌∙◌, add-zero, zero-add, arith}
use Rattle.std.specs.Iterator.{Yields}
use Rattle.std.specs.List.{FoldsTo}
use Rattle.std.specs.Option.{ok_or, MatchOption}
use Rattle.std.specs.Result.{is_ok}
use Rattle.plan.specs.declared.call.Call.{Call}
use Rattle.interface.specs.declared.calls.Calls.{Calls}
use Rattle.interface.specs.declared.unperformed.Unperformed.{Unperformed}
use Rattle.interface.specs.declared.unperformed.Unperformed.TheVariants.{Calls as no_calls}
use Rattle.interface.specs.Spoken.{ReadsNext, Spoken, Front, spoken, first_call, before, calls_of, counted}
use Rattle.interface.proofs.Reading.{first_shorter, calls-first, calls-none}

-- n and, if they can be counted, some more
abbrev pub and_more : ℕ → Option ℕ → Option ℕ
and_more n None = None
and_more n (Some m) = Some (n + m)

pub none_and_more : (o : Option ℕ) → o ≡ and_more 0 o
none_and_more None = refl
none_and_more (Some m) = ap Some (sym (zero-add m))

-- one call more
pub counts-one : (n : ℕ) (s : List ℕ) (c : Spoken) (rest : List ℕ) → ◌≡◌ {A = Front Spoken} (Some (c, rest)) (first_call s) →
    and_more n (counted (calls_of s)) ≡ and_more (n + 1) (counted (calls_of rest))
counts-one n s c rest is = ap (λ (o : Option (List Spoken)). and_more n (counted o)) (calls-first s c rest is) ∙ go (calls_of rest)
  where
    go : (o : Option (List Spoken)) → and_more n (counted (before c o)) ≡ and_more (n + 1) (counted o)
    go None = refl
    go (Some cs) = let e : n + length (c ∷ cs) ≡ n + 1 + length cs = omega arith in ap Some e

-- where each turn R takes a call and adds one to a count, the calls counted and those to come are all
module _ {P : Type 0} (R : P → Result Call Unperformed → P → Type 0) (count : P → ℕ) (turn : (p : P) (r : Result Call Unperformed) (q : P) → R p r q → (count q ≡ count p + 1) × (true ≡ is_ok r)) where
  pub counts-turns : (s : Calls) (p : P) (rs : List (Result Call Unperformed)) (t : Calls) (q : P) →
      Yields (λ s r t. ReadsNext s.0.now r t.0.now) s rs t → FoldsTo R p rs q →
      (and_more (count p) (counted (calls_of s.0.now)) ≡ and_more (count q) (counted (calls_of t.0.now))) × (count q + length t.0.now ≤ count p + length s.0.now)
  counts-turns s p [] t q gives folds =
      let left = ap (λ (c : Calls). length c.0.now) gives in
      let same = ap count folds in
      (λ i. and_more (same i) (counted (calls_of (gives i).0.now)), omega arith)
  counts-turns s p (Ok c ∷ rs) t q gives folds =
      let rest = gives.0.0.now in
      let more = (turn p (Ok c) folds.0 folds.1).0 in
      let less = first_shorter s.0.now (spoken c) rest gives.1 in
      let others = counts-turns gives.0 folds.0 rs t q gives.2 folds.2 in
      let few = others.1 in
      (counts-one (count p) s.0.now (spoken c) rest gives.1 ∙ ap (λ (n : ℕ). and_more n (counted (calls_of rest))) (sym more) ∙ others.0, omega arith)
  counts-turns s p (Err e ∷ rs) t q gives folds = absurd (let ok = (turn p (Err e) folds.0 folds.1).1 in let z : ◌≡◌ {A = ℕ} 0 1 = cc in omega arith)

-- what is told where no call is left, or where a refusal comes
pub told-counted : (r : Result ℕ Unperformed) (o : Option (Result Call Unperformed)) (Stops : Result Call Unperformed → Type 0) (n : ℕ) (s rest behind : List ℕ) →
    and_more 0 (counted (calls_of s)) ≡ and_more n (counted (calls_of rest)) → ReadsNext rest o behind →
    ((x : Result Call Unperformed) → Stops x → (e : Unperformed) × (x ≡ Err e) × (r ≡ Err e)) → MatchOption o (r ≡ Ok n) Stops → r ≡ ok_or (counted (calls_of s)) no_calls
told-counted r o Stops n s rest behind is read refused match = go o read match
  where
    all : counted (calls_of s) ≡ and_more n (counted (calls_of rest))
    all = none_and_more (counted (calls_of s)) ∙ is

    stop : (x : Result Call Unperformed) → ReadsNext rest (Some x) behind → (e : Unperformed) × (x ≡ Err e) × (r ≡ Err e) → r ≡ ok_or (counted (calls_of s)) no_calls
    stop (Ok c) read told = absurd (let no = told.1 in let z : ◌≡◌ {A = ℕ} 0 1 = cc in omega arith)
    stop (Err e) read told =
        let same : told.0 ≡ e = let is = told.1 in cc in
        let none = all ∙ ap (λ (cs : Option (List Spoken)). and_more n (counted cs)) (calls-none rest read.1 read.2) in
        told.2 ∙ ap Err (same ∙ read.0) ∙ sym (ap (λ (m : Option ℕ). ok_or m no_calls) none)

    go : (o : Option (Result Call Unperformed)) → ReadsNext rest o behind → MatchOption o (r ≡ Ok n) Stops → r ≡ ok_or (counted (calls_of s)) no_calls
    go None read is =
        let end = all ∙ ap (λ (t : List ℕ). and_more n (counted (calls_of t))) read.0 ∙ ap Some (add-zero n) in
        is ∙ sym (ap (λ (m : Option ℕ). ok_or m no_calls) end)
    go (Some x) read stops = stop x read (refused x stops)
