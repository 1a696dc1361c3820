-- The first misrouted and the first overlong hop, by the position of the first that a test finds.
-- Assumes nothing.
use Rattle.std.proofs.Common.{◌≡◌, ℕ, zero, suc, ◌+◌, ◌<◌, ◌≤◌, Bool, true, false, cond, ◌||◌, eqb, ltb, leb, List, [], ◌∷◌, map, position, reverse, length, get_or, take, drop, Some, None, sym, refl, ap, ◌∙◌, subst, add-one, arith, length-take}
use mathlib.Core.List.{reverse_aux}
use lib.ListN.{length-map}
use Rattle.std.specs.List.{IsAnyAnswer, enumerate_from, list_any, position_from}
use Rattle.std.proofs.lemmas.Bool.{le-leb, lt-leb, or_from, or_left, or_right}
use Rattle.std.proofs.lemmas.List.{map-id, reverse-append, take_more, at_drop_all, at_drop_more, get_or-map, get_or-take}
use Rattle.std.proofs.lemmas.Iterator.Adapters.{position_from-zero}
use Rattle.network.specs.Flows as network
use Rattle.network.proofs.Lists.{At-get_or}
use Rattle.planning.specs.Lists.{any}
use Rattle.planning.specs.Offers.{misrouted, overlong}
use Rattle.planning.proofs.Routes.{misrouted-none, overlong-none}
use Rattle.plan.specs.declared.row.Hop.{Hop}
use Rattle.plan.specs.Rows.{hop, blank}
use Rattle.plan.proofs.Any.{any_true, any_false}

-- the first overlong hop is the first whose wire time is above the period
pub overlong-position : (T : ℕ) (hops : List Hop) → overlong T 0 (map hop hops) ≡ position (λ h. ltb T h.wire) hops
overlong-position T hops = go 0 hops ∙ sym (position_from-zero (λ (h : Hop). ltb T h.wire) hops)
  where
    go : (k : ℕ) (hs : List Hop) → overlong T k (map hop hs) ≡ position_from (λ h. ltb T h.wire) k hs
    go k [] = refl
    go k (h ∷ hs) =
        let rest = go (suc k) hs ∙ ap (λ (n : ℕ). position_from (λ h. ltb T h.wire) n hs) (sym (add-one k)) in
        elim (ltb T h.wire) as (λ over. elim over [ true ↦ Some k | false ↦ overlong T (suc k) (map hop hs) ] ≡ cond over (Some k) (position_from (λ h. ltb T h.wire) (k + 1) hs)) [
          | true ↦ refl
          | false ↦ rest
        ]

-- a test over a list the other way round
any-reverse : {A : Type 0} (p : A → Bool) (xs : List A) → any p (reverse xs) ≡ any p xs
any-reverse {A} p xs = onto xs [] ∙ or_false (any p xs)
  where
    or_false : (a : Bool) → (a || false) ≡ a
    or_false true = refl
    or_false false = refl

    turn : (a b c : Bool) → (b || (a || c)) ≡ ((a || b) || c)
    turn true true c = refl
    turn true false c = refl
    turn false true c = refl
    turn false false c = refl

    onto : (xs ys : List A) → any p (reverse_aux xs ys) ≡ (any p xs || any p ys)
    onto [] ys = refl
    onto (x ∷ xs) ys = onto xs (x ∷ ys) ∙ turn (p x) (any p xs) (any p ys)

-- the library's test of a list is the same
any-list_any : {A : Type 0} (p : A → Bool) (xs : List A) → any p xs ≡ list_any p xs
any-list_any p [] = refl
any-list_any p (x ∷ xs) = ap (λ (b : Bool). p x || b) (any-list_any p xs)

-- whether a port stands among others
any_stands : (ports : List ℕ) (q : ℕ) (stands : Bool) → IsAnyAnswer (λ r b. eqb r q ≡ b) ports stands → any (λ r. eqb r q) ports ≡ stands
any_stands ports q stands cases = sym (ap (any (λ r. eqb r q)) (map-id ports)) ∙ go stands cases
  where
    go : (stands : Bool) → IsAnyAnswer (λ r b. eqb r q ≡ b) ports stands → any (λ r. eqb r q) (map (λ (r : ℕ). r) ports) ≡ stands
    go true some = any_true (λ r. eqb r q) (λ r. r) 0 ports some.0 some.1 (some.2 0)
    go false none = any_false (λ r. eqb r q) (λ r. r) 0 ports (λ j within. none j 0 (omega arith) within)

-- what the search for a misrouted hop does at hop k
misrouted-at : (N : ℕ) (route : List ℕ) (k : ℕ) (bad : Bool) → k < length route → (leb N (get_or route k 0) || any (λ r. eqb r (get_or route k 0)) (take k route)) ≡ bad →
    misrouted N (reverse (take k route)) k (drop k route) ≡ elim bad [ true ↦ Some k | false ↦ misrouted N (reverse (take (k + 1) route)) (k + 1) (drop (k + 1) route) ]
misrouted-at N route k bad within test =
    at_drop_more (misrouted N (reverse (take k route)) k) route k 0 within
    ∙ ap (λ (b : Bool). elim b [ true ↦ Some k | false ↦ misrouted N (q ∷ reverse (take k route)) (suc k) rest ]) (ap (λ (b : Bool). leb N q || b) (any-reverse (λ r. eqb r q) (take k route)) ∙ test)
    ∙ ap (λ (n : ℕ). elim bad [ true ↦ Some k | false ↦ misrouted N (q ∷ reverse (take k route)) n rest ]) (sym (add-one k))
    ∙ ap (λ (qs : List ℕ). elim bad [ true ↦ Some k | false ↦ misrouted N qs (k + 1) rest ]) (sym (ap reverse (take_more route k 0 within) ∙ reverse-append (take k route) (q ∷ [])))
  where
    q : ℕ
    q = get_or route k 0

    rest : List ℕ
    rest = drop (k + 1) route

-- a port that is not one of N
pub misrouted_absent : (N : ℕ) (route : List ℕ) (k : ℕ) → k < length route → N ≤ get_or route k 0 → misrouted N (reverse (take k route)) k (drop k route) ≡ Some k
misrouted_absent N route k within absent = misrouted-at N route k true within (or_left _ _ (le-leb N _ absent))

-- a port that stands earlier
pub misrouted_twice : (N : ℕ) (route : List ℕ) (k : ℕ) (stands : Bool) → k < length route → stands ≡ true → IsAnyAnswer (λ r b. eqb r (get_or route k 0) ≡ b) (take k route) stands →
    misrouted N (reverse (take k route)) k (drop k route) ≡ Some k
misrouted_twice N route k stands within found cases = misrouted-at N route k true within (or_right _ _ (any_stands (take k route) _ _ cases ∙ found))

-- a port of N that does not
pub misrouted_more : (N : ℕ) (route : List ℕ) (k : ℕ) (stands : Bool) → k < length route → get_or route k 0 < N → stands ≡ false → IsAnyAnswer (λ r b. eqb r (get_or route k 0) ≡ b) (take k route) stands →
    misrouted N (reverse (take k route)) k (drop k route) ≡ misrouted N (reverse (take (k + 1) route)) (k + 1) (drop (k + 1) route)
misrouted_more N route k stands within present missing cases = misrouted-at N route k false within (or_from _ _ (lt-leb N _ present) (any_stands (take k route) _ _ cases ∙ missing))

-- the test of a hop and its port: the port is not one of N, or stands earlier in the route
abbrev pub bad_hop : ℕ → List ℕ → ℕ × ℕ → Bool
bad_hop N route p = leb N p.1 || list_any (λ r. eqb r p.1) (take p.0 route)

-- the first misrouted hop is the first that the test finds
pub misrouted-position : (N : ℕ) (route : List ℕ) → misrouted N [] 0 route ≡ position (bad_hop N route) (enumerate_from 0 route)
misrouted-position N route = go (length route) 0 (omega arith) ∙ sym (position_from-zero (bad_hop N route) (enumerate_from 0 route))
  where
    go : (n k : ℕ) → k + n ≡ length route → misrouted N (reverse (take k route)) k (drop k route) ≡ position_from (bad_hop N route) k (enumerate_from k (drop k route))
    go zero k all =
        at_drop_all (misrouted N (reverse (take k route)) k) route k (omega arith)
        ∙ sym (at_drop_all (λ (qs : List ℕ). position_from (bad_hop N route) k (enumerate_from k qs)) route k (omega arith))
    go (suc n) k left =
        let q : ℕ = get_or route k 0 in
        let rest = go n (k + 1) (omega arith) in
        misrouted-at N route k (bad_hop N route (k, q)) (omega arith) (ap (λ (b : Bool). leb N q || b) (any-list_any (λ r. eqb r q) (take k route)))
        ∙ elim (bad_hop N route (k, q)) as (λ bad. elim bad [ true ↦ Some k | false ↦ misrouted N (reverse (take (k + 1) route)) (k + 1) (drop (k + 1) route) ] ≡ cond bad (Some k) (position_from (bad_hop N route) (k + 1) (enumerate_from (k + 1) (drop (k + 1) route)))) [
          | true ↦ refl
          | false ↦ rest
        ]
        ∙ sym (at_drop_more (λ (qs : List ℕ). position_from (bad_hop N route) k (enumerate_from k qs)) route k 0 (omega arith))

-- if no wire time exceeds the period, each is at most the period
pub wire-within : (T : ℕ) (hops : List Hop) (n j k : ℕ) → overlong T j (map hop (take n hops)) ≡ None → k < n → k < length hops → (get_or hops k blank).wire ≤ T
wire-within T hops n j k none below within =
    let stored : get_or (map hop (take n hops)) k (hop blank) ≡ hop (get_or hops k blank) =
    get_or-map hop (take n hops) k blank (hop blank) (simp length-take (omega arith)) ∙ ap hop (get_or-take n hops k blank below) in
    let at = At-get_or (map hop (take n hops)) k (hop blank) (simp (length-map, length-take) (omega arith)) in
    subst (λ (h : network.Hop). h.wire ≤ T) stored (overlong-none T j (map hop (take n hops)) none k _ at)

-- if no hop is misrouted, each port is one of N
pub port-below : (N : ℕ) (earlier : List ℕ) (j : ℕ) (route : List ℕ) (k : ℕ) → misrouted N earlier j route ≡ None → k < length route → get_or route k 0 < N
port-below N earlier j route k none within = (misrouted-none N earlier j route none).below k (get_or route k 0) (At-get_or route k 0 within)
