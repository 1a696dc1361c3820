-- The figures that are stored of port records, one record after another.
-- Assumes nothing.
use Rattle.std.proofs.Common.{◌≡◌, ℕ, zero, suc, ◌+◌, ◌<◌, ◌≤◌, max, Bool, true, false, ◌||◌, ltb, List, [], ◌∷◌, ◌++◌, map, length, get_or, take, set, replicate, sym, refl, ap, ◌∙◌, subst, arith}
use native.Mathlib.Decide.{ℕ_discrete}
use Rattle.std.proofs.lemmas.Bool.{le-ltb}
use Rattle.std.proofs.lemmas.Bool.Decides.{nat_tests}
use Rattle.std.proofs.lemmas.List.{length-set, length_push, get_or-set_same, get_or-set_other, take_all, take-append-le, take_more_set, map_push}
use Rattle.sheet.specs.declared.port.PortRecord.{PortRecord}
use Rattle.planning.specs.Lists.{any}
use Rattle.planning.specs.Setups as planning
use Rattle.plan.specs.declared.setup.Port.{Port}
use Rattle.plan.specs.Calls.{port}
use Rattle.plan.specs.Figures.{Figured}
use Rattle.plan.specs.Ports as stored

-- a delay and a processing delay within their limits
abbrev Short : Port → Type 0
Short p = (p.delay ≤ 100000) × (p.processing ≤ 1000000)

blank_short : (n q : ℕ) → Short (get_or (replicate n stored.blank) q stored.blank)
blank_short zero q = (omega arith, omega arith)
blank_short (suc n) zero = (omega arith, omega arith)
blank_short (suc n) (suc q) = blank_short n q

any_push : {A : Type 0} (p : A → Bool) (xs : List A) (x : A) → any p (xs ++ x ∷ []) ≡ (any p xs || p x)
any_push p [] x = go (p x)
  where
    go : (b : Bool) → (b || false) ≡ b
    go true = refl
    go false = refl
any_push p (y ∷ xs) x = ap (λ (b : Bool). p y || b) (any_push p xs x) ∙ go (p y)
  where
    go : (b : Bool) → (b || (any p xs || p x)) ≡ (b || any p xs || p x)
    go true = refl
    go false = refl

-- above the greater of two numbers is above one of them
ltb-max : (n a b : ℕ) → ltb n (max a b) ≡ (ltb n a || ltb n b)
ltb-max n a b = grind (arith, nat_tests)

-- of no record
pub figured-none : (p : Port) → p.delay ≡ 0 → p.processing ≡ 0 → p.best ≡ 0 → Figured [] (record { count = 0; ports = replicate 32 p; longest = 0 })
figured-none p delay processing best =
    let blank : p ≡ stored.blank = λ i. record { delay = delay i; processing = processing i; best = best i } in
    rw blank (record { count = refl; long = refl; ports = refl; longest = λ most. le-ltb most 0 (omega arith); delays = blank_short 32 })

-- of one record more
module _ (k : ℕ) (xs : List PortRecord) (x : PortRecord) (ports : List Port) (longest : ℕ) (figured : Figured xs (record { count = k; ports = ports; longest = longest })) where
  count_more : k + 1 ≡ length (xs ++ x ∷ [])
  count_more = ap (λ (n : ℕ). n + 1) figured.count ∙ sym (length_push xs x)

  longest_more : (most : ℕ) → ltb most (max longest x.best_effort) ≡ any (λ y. ltb most y.best_effort) (xs ++ x ∷ [])
  longest_more most =
      ltb-max most longest x.best_effort
      ∙ ap (λ (b : Bool). b || ltb most x.best_effort) (figured.longest most)
      ∙ sym (any_push (λ y. ltb most y.best_effort) xs x)

  -- that has room
  pub figured-stored : k < 32 → Short (stored.stored x) → Figured (xs ++ x ∷ []) (record { count = k + 1; ports = set ports k (stored.stored x); longest = max longest x.best_effort })
  figured-stored room short =
      let count = figured.count in
      let long = figured.long in
      let within : k < length ports = omega arith in
      let front : length xs ≤ 32 = omega arith in
      let pushed = length_push xs x in
      let front-more : length (xs ++ x ∷ []) ≤ 32 = omega arith in
      record {
        count = count_more;
        long = length-set ports k (stored.stored x) ∙ long;
        ports =
            ap (λ (n : ℕ). map stored.port (take n (set ports k (stored.stored x)))) (sym count_more)
            ∙ ap (map stored.port) (take_more_set ports k (stored.stored x) within)
            ∙ map_push stored.port (take k ports) (stored.stored x)
            ∙ ap (λ (ps : List planning.Port). ps ++ port x ∷ []) (ap (λ (n : ℕ). map stored.port (take n ports)) count ∙ figured.ports ∙ ap (map port) (take_all 32 xs front))
            ∙ sym (map_push port xs x)
            ∙ ap (map port) (sym (take_all 32 (xs ++ x ∷ []) front-more));
        longest = longest_more;
        delays = λ q. elim (ℕ_discrete q k) [
          | yes same ↦ subst (λ (i : ℕ). Short (get_or (set ports k (stored.stored x)) i stored.blank)) (sym same) (subst Short (sym (get_or-set_same ports k (stored.stored x) stored.blank within)) short)
          | no differ ↦ subst Short (sym (get_or-set_other ports k q (stored.stored x) stored.blank differ)) (figured.delays q)
        ];
      }

  -- that has none
  pub figured_past : 32 ≤ k → Figured (xs ++ x ∷ []) (record { count = k + 1; ports = ports; longest = max longest x.best_effort })
  figured_past full =
      let count = figured.count in
      let long = figured.long in
      let pushed = length_push xs x in
      record {
        count = count_more;
        long = long;
        ports =
            ap (map stored.port) (take_all (length (xs ++ x ∷ [])) ports (omega arith) ∙ sym (take_all (length xs) ports (omega arith)))
            ∙ figured.ports
            ∙ ap (map port) (sym (take-append-le 32 xs (x ∷ []) (omega arith)));
        longest = longest_more;
        delays = figured.delays;
      }
