-- What an accepted record says of its fields, and what makes it accepted.
use Rattle.std.specs.Prelude.{◌≡◌, ◌≢◌, ℕ, ◌<◌, ◌≤◌, Bool, true, false, cond, ◌||◌, List, [], ◌∷◌, length, Some, None, Ok, Err, Option, Result, find, option_map, ◌==◌, nat_lt, refl}
use Rattle.std.proofs.Common.{sym, ap, ◌∙◌, ⊎_elim, arith}
use Rattle.std.proofs.lemmas.Bool.{cases_lt, ltb-false, le-ltb, lt-ltb, eqb-true, eq-eqb, cond-true}
use Rattle.fault.specs.declared.kinds.RecordFault.{RecordFault}
use Rattle.fault.specs.declared.kinds.RecordFault.TheVariants.{Sheet}
use Rattle.fault.specs.declared.kinds.SheetFault.TheVariants.{Unfinished}
use Rattle.sheet.specs.declared.limited.Limited.{Limited}
use Rattle.sheet.specs.Limits.{from_to, is_outside, first_outside, refusal, judged, accepted, exactly}

-- every field is inside its limits
abbrev pub Inside : List Limited → Type 0
Inside [] = Unit {0}
Inside (f ∷ fs) = (f.least ≤ f.value) × (f.value ≤ f.most) × Inside fs

-- a test that picks something else failed
else_from_none : (b : Bool) (v : ℕ) (o : Option ℕ) → cond b (Some v) o ≡ None → (b ≡ false) × (o ≡ None)
else_from_none true v o e = let z : ◌≡◌ {A = ℕ} 0 1 = cc in absurd (omega arith)
else_from_none false v o e = (refl, e)

-- the bit of a field that a test picks
bit-picked : (b : Bool) (f : Limited) (o : Option Limited) → option_map (λ (x : Limited). x.bit) (cond b (Some f) o) ≡ cond b (Some f.bit) (option_map (λ (x : Limited). x.bit) o)
bit-picked true f o = refl
bit-picked false f o = refl

either-false : (a b : Bool) → (a || b) ≡ false → (a ≡ false) × (b ≡ false)
either-false true b e = let z : ◌≡◌ {A = ℕ} 0 1 = cc in absurd (omega arith)
either-false false b e = (refl, e)

pub inside_from_none : (fs : List Limited) → first_outside fs ≡ None → Inside fs
inside_from_none [] e = tt
inside_from_none (f ∷ fs) e =
    let here = else_from_none (is_outside f) f.bit (first_outside fs) (sym (bit-picked (is_outside f) f (find is_outside fs)) ∙ e) in
    let both = either-false (nat_lt f.value f.least) (nat_lt f.most f.value) here.0 in
    (ltb-false f.value f.least both.0, ltb-false f.most f.value both.1, inside_from_none fs here.1)

-- one field more is inside its limits
pub outside_next :
    (f : Limited) (fs : List Limited) → f.least ≤ f.value → f.value ≤ f.most → first_outside (f ∷ fs) ≡ first_outside fs
outside_next f fs low high = rw (le-ltb f.value f.least low, le-ltb f.most f.value high)

pub none_from_inside : (fs : List Limited) → Inside fs → first_outside fs ≡ None
none_from_inside [] i = refl
none_from_inside (f ∷ fs) i = outside_next f fs i.0 i.1 ∙ none_from_inside fs i.2

-- what is judged without a fault
pub record Clean (zeros limits : List Limited) : Type 0 where
  pub zeros_inside : Inside zeros
  pub limits_inside : Inside limits

pub clean_from_judged : (k : ℕ) (zs ls : List Limited) → judged k zs ls ≡ Ok tt → Clean zs ls
clean_from_judged k zs ls e = go (first_outside zs) (first_outside ls) refl refl e
  where
    go : (y z : Option ℕ) → first_outside zs ≡ y → first_outside ls ≡ z → refusal k y z ≡ Ok tt → Clean zs ls
    go (Some b) z p q r = let u : ◌≡◌ {A = ℕ} 0 1 = cc in absurd (omega arith)
    go None (Some b) p q r = let u : ◌≡◌ {A = ℕ} 0 1 = cc in absurd (omega arith)
    go None None p q r = record { zeros_inside = inside_from_none zs p; limits_inside = inside_from_none ls q }

pub judged_clean : (k : ℕ) (zs ls : List Limited) → Clean zs ls → judged k zs ls ≡ Ok tt
judged_clean k zs ls c =
    ap (λ (o : Option ℕ). refusal k o (first_outside ls)) (none_from_inside zs c.zeros_inside)
    ∙ ap (λ (o : Option ℕ). refusal k None o) (none_from_inside ls c.limits_inside)

-- what an accepted reading says
pub record Read {R : Type 0} (z : ℕ) (s : List ℕ) (zeros limits : List Limited) (x y : R) : Type 0 where
  pub long : length s ≡ z
  pub clean : Clean zeros limits
  pub same : x ≡ y

pub read_from_accepted :
    {R : Type 0} {x y : R} (z k : ℕ) (s : List ℕ) (zs ls : List Limited)
    → exactly z k s (accepted (judged k zs ls) x) ≡ Ok y → Read z s zs ls x y
read_from_accepted {x = x} {y = y} z k s zs ls e = go (length s == z) (judged k zs ls) refl refl e
  where
    go : (b : Bool) (j : Result (Unit {0}) RecordFault) → (length s == z) ≡ b → judged k zs ls ≡ j
        → cond b (accepted j x) (Err (Sheet (Unfinished k))) ≡ Ok y → Read z s zs ls x y
    go true (Ok u) p q r = record { long = eqb-true (length s) z p; clean = clean_from_judged k zs ls q; same = cc }
    go true (Err f) p q r = let u : ◌≡◌ {A = ℕ} 0 1 = cc in absurd (omega arith)
    go false j p q r = let u : ◌≡◌ {A = ℕ} 0 1 = cc in absurd (omega arith)

pub accepted_clean :
    {R : Type 0} (x : R) (k : ℕ) (zs ls : List Limited) → Clean zs ls → accepted (judged k zs ls) x ≡ Ok x
accepted_clean x k zs ls c = ap (λ (j : Result (Unit {0}) RecordFault). accepted j x) (judged_clean k zs ls c)

-- the reading of exactly z octets is its judgment
pub reading_judged :
    {R : Type 0} (x : R) (z k : ℕ) (s : List ℕ) (j : Result (Unit {0}) RecordFault)
    → length s ≡ z → exactly z k s (accepted j x) ≡ accepted j x
reading_judged x z k s j e = cond-true (length s == z) _ _ (eq-eqb (length s) z e)

-- the same, where the record and its fields are known by equations
pub reading_from :
    {R : Type 0} {x y : R} (z k : ℕ) (s : List ℕ) (j : Result (Unit {0}) RecordFault) {zs zs' ls ls' : List Limited}
    → length s ≡ z → zs ≡ zs' → ls ≡ ls' → x ≡ y → j ≡ judged k zs ls
    → accepted j x ≡ exactly z k s (accepted (judged k zs' ls') y)
reading_from {y = y} z k s j l zeros limits same e =
    let judgment = e ∙ (λ i. judged k (zeros i) (limits i)) in
    (λ i. accepted (judgment i) (same i)) ∙ sym (reading_judged y z k s _ l)

pub outside_below : (f : Limited) (fs : List Limited) → f.value < f.least → first_outside (f ∷ fs) ≡ Some f.bit
outside_below f fs low = rw (lt-ltb f.value f.least low)

pub outside_above :
    (f : Limited) (fs : List Limited) → f.least ≤ f.value → f.most < f.value → first_outside (f ∷ fs) ≡ Some f.bit
outside_above f fs low high = rw (le-ltb f.value f.least low, lt-ltb f.most f.value high)

-- a field that is not the one value that it may have
pub outside_differs : (b v m : ℕ) (fs : List Limited) → v ≢ m → first_outside (from_to b v m m ∷ fs) ≡ Some b
outside_differs b v m fs differ =
    ⊎_elim
    (λ (below : v < m). outside_below (from_to b v m m) fs below)
    (λ (least : m ≤ v). let above : m < v = omega arith in outside_above (from_to b v m m) fs least above)
    (cases_lt v m)
