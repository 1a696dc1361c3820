-- Readings and writings undo each other over whole sheets, for every kind that keeps the laws.
use Rattle.std.proofs.Common.{◌≡◌, ℕ, zero, suc, ◌+◌, ◌*◌, ◌/◌, ◌%◌, ◌<◌, ◌≤◌, Bool, true, false, cond, eqb, leb, List, [], ◌∷◌, ◌++◌, length, take, drop, Ok, Err, Result, sym, refl, ap, ◌∙◌, ⊎_elim, zero-mul, arith, length-append, length-drop, length-take}
use native.Mathlib.Nat.{mul-mod_left, mul-div_left}
use Rattle.std.proofs.lemmas.Nat.{div-add-mod'}
use Rattle.std.proofs.lemmas.List.{take_at, drop_at, drop_all, drop-drop, take-append-drop, get_or-take, get_or_past}
use Rattle.std.proofs.lemmas.Bool.{cases_lt, cond-true, eq-eqb, eqb-true, leb-true}
use Rattle.fault.specs.declared.kinds.RecordFault.{RecordFault}
use Rattle.fault.specs.declared.kinds.SheetFault.TheVariants.{Unfinished}
use Rattle.sheet.specs.Fields.{Octets}
use Rattle.sheet.specs.RoundTrips.{Undone}
use Rattle.sheet.specs.Sheets.{read_by, read_at, record_count, before, read_from, read_count, read_sheet, written_sheet, and_then, judge_from}
use Rattle.sheet.proofs.Judgments.{ok-from_and-then}
use Rattle.sheet.specs.Numbers.{octets_drop}
use Rattle.sheet.proofs.Placed.{length-written_sheet}
use Rattle.sheet.proofs.Sheets.{octets_at_inside}

-- the first octets of octets are octets
octets-take : (n : ℕ) (s : List ℕ) → Octets s → Octets (take n s)
octets-take n s o i =
    ⊎_elim
    (λ (h : i < n). rw (get_or-take n s i 0 h) (o i))
    (λ (h : n ≤ i). let past : length (take n s) ≤ i = simp length-take (omega arith) in rw (get_or_past (take n s) i 0 past) (omega arith))
    (cases_lt i n)

-- what one record before others says
record Both {R : Type 0} (a : Result R RecordFault) (b : Result (List R) RecordFault) (xs : List R) : Type 0 where
  first : R
  rest : List R
  is : first ∷ rest ≡ xs
  first_read : a ≡ Ok first
  rest_read : b ≡ Ok rest

both-from-before : {R : Type 0} (a : Result R RecordFault) (b : Result (List R) RecordFault) (xs : List R) → before a b ≡ Ok xs → Both a b xs
both-from-before (Ok x) (Ok xs) ys e = record { first = x; rest = xs; is = cc; first_read = refl; rest_read = refl }
both-from-before (Ok x) (Err f) ys e = let u : ◌≡◌ {A = ℕ} 0 1 = cc in absurd (omega arith)
both-from-before (Err f) b ys e = let u : ◌≡◌ {A = ℕ} 0 1 = cc in absurd (omega arith)

-- what an accepted record k of a sheet says
record Found {R : Type 0} (z : ℕ) (reading : ℕ → List ℕ → Result R RecordFault) (k : ℕ) (s : List ℕ) (x : R) : Type 0 where
  inside : k * z + z ≤ length s
  read : reading k (take z (drop (k * z) s)) ≡ Ok x

found-from_read :
    {R : Type 0} (z : ℕ) (reading : ℕ → List ℕ → Result R RecordFault) (k : ℕ) (s : List ℕ) (x : R)
    → read_at z reading k s ≡ Ok x → Found z reading k s x
found-from_read z reading k s x e = go (leb (k * z + z) (length s)) refl e
  where
    go : (b : Bool) → leb (k * z + z) (length s) ≡ b
        → read_by (reading k) (cond b (Ok (take z (drop (k * z) s))) (Err (Unfinished k))) ≡ Ok x → Found z reading k s x
    go true p r = record { inside = leb-true (k * z + z) (length s) p; read = r }
    go false p r = let u : ◌≡◌ {A = ℕ} 0 1 = cc in absurd (omega arith)

-- what an accepted sheet says
record Whole {R : Type 0} (z : ℕ) (reading : ℕ → List ℕ → Result R RecordFault) (s : List ℕ) (xs : List R) : Type 0 where
  left : length s % z ≡ 0
  read : read_from (λ i. read_at z reading i s) (length s / z) 0 ≡ Ok xs

whole-from_read :
    {R : Type 0} (z : ℕ) (reading : ℕ → List ℕ → Result R RecordFault) (s : List ℕ) (xs : List R)
    → read_sheet z reading s ≡ Ok xs → Whole z reading s xs
whole-from_read z reading s xs e = go (eqb (length s % z) 0) refl e
  where
    go : (b : Bool) → eqb (length s % z) 0 ≡ b
        → read_count z reading s (cond b (Ok (length s / z)) (Err (Unfinished (length s / z)))) ≡ Ok xs → Whole z reading s xs
    go true p r = record { left = eqb-true (length s % z) 0 p; read = r }
    go false p r = let u : ◌≡◌ {A = ℕ} 0 1 = cc in absurd (omega arith)

module _ {R : Type 0} (z : ℕ) (reading : ℕ → List ℕ → Result R RecordFault) (judging : ℕ → R → Result (Unit {0}) RecordFault) (written : R → List ℕ)
    (some : 0 < z)
    (whole : (x : R) → length (written x) ≡ z)
    (readback : (x : R) (j k : ℕ) → judging j x ≡ Ok tt → reading k (written x) ≡ Ok x)
    (writable : (x : R) (j k : ℕ) (s : List ℕ) → reading k s ≡ Ok x → judging j x ≡ Ok tt)
    (rewritten : (x : R) (k : ℕ) (s : List ℕ) → Octets s → reading k s ≡ Ok x → written x ≡ s)
  where
    records-apart : (x y : R) (j k : ℕ) → judging j x ≡ Ok tt → judging k y ≡ Ok tt → written x ≡ written y → x ≡ y
    records-apart x y j k a b e =
        let p = readback x j 0 a in
        let q = readback y k 0 b in
        let r = ap (reading 0) e in
        cc

    -- the records of a sheet that ends in the sheet of xs
    reads-from :
        (s : List ℕ) (xs : List R) (k : ℕ) → drop (k * z) s ≡ written_sheet written xs → judge_from judging k xs ≡ Ok tt
        → read_from (λ i. read_at z reading i s) (length xs) k ≡ Ok xs
    reads-from s [] k e judged = refl
    reads-from s (x ∷ xs) k e judged =
        let ok = ok-from_and-then (judging k x) (judge_from judging (suc k) xs) judged in
        let size = whole x in
        let both = length-append (written x) (written_sheet written xs) in
        let left = sym (length-drop (k * z) s) ∙ ap length e in
        let inside : k * z + z ≤ length s = omega arith in
        let part : take z (drop (k * z) s) ≡ written x = ap (take z) e ∙ take_at (written x) (written_sheet written xs) z size in
        let here : read_at z reading k s ≡ Ok x
        = ap (read_by (reading k)) (octets_at_inside z k s inside) ∙ ap (reading k) part ∙ readback x k k ok.0 in
        let next : k * z + z ≡ suc k * z = omega arith in
        let tail : drop (suc k * z) s ≡ written_sheet written xs
        = ap (λ (n : ℕ). drop n s) (sym next) ∙ sym (drop-drop z (k * z) s) ∙ ap (drop z) e ∙ drop_at (written x) (written_sheet written xs) z size in
        let there = reads-from s xs (suc k) tail ok.1 in
        (λ i. before (here i) (there i))

    sheet-readback : (xs : List R) → judge_from judging 0 xs ≡ Ok tt → read_sheet z reading (written_sheet written xs) ≡ Ok xs
    sheet-readback xs judged =
        let long = length-written_sheet z written whole xs in
        let left : length (written_sheet written xs) % z ≡ 0 = ap (λ (n : ℕ). n % z) long ∙ mul-mod_left (length xs) z in
        let count : length (written_sheet written xs) / z ≡ length xs = ap (λ (n : ℕ). n / z) long ∙ mul-div_left (length xs) some in
        let counted : record_count z (written_sheet written xs) ≡ Ok (length xs)
        = cond-true (eqb (length (written_sheet written xs) % z) 0) _ _ (eq-eqb (length (written_sheet written xs) % z) 0 left) ∙ ap Ok count in
        ap (read_count z reading (written_sheet written xs)) counted
        ∙ reads-from (written_sheet written xs) xs 0 (ap (λ (n : ℕ). drop n (written_sheet written xs)) (zero-mul z)) judged

    -- what was read from record k on is the rest of the sheet
    rewrites-from :
        (s : List ℕ) → Octets s → (n k : ℕ) (xs : List R) → length s ≡ (k + n) * z
        → read_from (λ i. read_at z reading i s) n k ≡ Ok xs → written_sheet written xs ≡ drop (k * z) s
    rewrites-from s o zero k xs long e =
        let none : xs ≡ [] = cc in
        let past : length s ≤ k * z = omega arith in
        ap (written_sheet written) none ∙ sym (drop_all (k * z) s past)
    rewrites-from s o (suc n) k xs long e =
        let both = both-from-before (read_at z reading k s) (read_from (λ i. read_at z reading i s) n (suc k)) xs e in
        let found = found-from_read z reading k s both.first both.first_read in
        let part = rewritten both.first k (take z (drop (k * z) s)) (octets-take z (drop (k * z) s) (octets_drop (k * z) s o)) found.read in
        let shift : k + suc n ≡ suc k + n = omega arith in
        let tail = rewrites-from s o n (suc k) both.rest (long ∙ ap (λ (m : ℕ). m * z) shift) both.rest_read in
        let next : suc k * z ≡ k * z + z = omega arith in
        ap (written_sheet written) (sym both.is)
        ∙ (λ i. part i ++ (tail ∙ ap (λ (m : ℕ). drop m s) next ∙ sym (drop-drop z (k * z) s)) i)
        ∙ take-append-drop z (drop (k * z) s)

    -- what was read from record k on may be written
    judges-from :
        (s : List ℕ) (n k : ℕ) (xs : List R) → read_from (λ i. read_at z reading i s) n k ≡ Ok xs → judge_from judging k xs ≡ Ok tt
    judges-from s zero k xs e = let none : xs ≡ [] = cc in ap (judge_from judging k) none
    judges-from s (suc n) k xs e =
        let both = both-from-before (read_at z reading k s) (read_from (λ i. read_at z reading i s) n (suc k)) xs e in
        let found = found-from_read z reading k s both.first both.first_read in
        let here = writable both.first k k (take z (drop (k * z) s)) found.read in
        let there = judges-from s n (suc k) both.rest both.rest_read in
        ap (judge_from judging k) (sym both.is) ∙ (λ i. and_then (here i) (there i))

    sheet-rewritten : (s : List ℕ) (xs : List R) → Octets s → read_sheet z reading s ≡ Ok xs → written_sheet written xs ≡ s
    sheet-rewritten s xs o e =
        let all = whole-from_read z reading s xs e in
        let long : length s ≡ (0 + length s / z) * z = let parts = div-add-mod' (length s) z in let left = all.left in omega arith in
        rewrites-from s o (length s / z) 0 xs long all.read ∙ ap (λ (n : ℕ). drop n s) (zero-mul z)

    sheet-writable : (s : List ℕ) (xs : List R) → read_sheet z reading s ≡ Ok xs → judge_from judging 0 xs ≡ Ok tt
    sheet-writable s xs e = judges-from s (length s / z) 0 xs (whole-from_read z reading s xs e).read

    pub undone : Undone z reading judging written
    undone = record { apart = records-apart; readback = sheet-readback; rewritten = sheet-rewritten; writable = sheet-writable }
