-- How many records a gate list has: one more than there are places where the state changes, and it changes at marks alone.
-- Assumes nothing.
use Rattle.std.proofs.Common.{◌≡◌, ℕ, zero, suc, ◌+◌, ◌*◌, ◌/◌, ◌<◌, ◌≤◌, Bool, true, false, cond, not, ◌&&◌, T, eqb, List, [], ◌∷◌, length, sym, ap, ◌∙◌, subst, arith, eqb→eq}
use native.Mathlib.Nat.{div-eq_of_eq-mul_left}
use native.Mathlib.Decide.{ℕ_discrete}
use Rattle.network.specs.Flows.{At, here, next, Hop, Flow, Network, Well, Formed, guard}
use Rattle.network.specs.Gates.{Gate}
use Rattle.network.proofs.Lists.{Found, decided_found}
use Rattle.network.proofs.Plans.{same-hop}
use Rattle.planning.specs.Lists.{any}
use Rattle.planning.specs.Gates.{on_port, state, joined, recorded, gates}
use Rattle.planning.proofs.Tests.{and-only, any-only}
use Rattle.planning.proofs.Counts.{count, count-≤, count_none, count_or}
use Rattle.planning.proofs.Marks.{marked, marked-count, changes, change_marked}

-- a place before a record of state s adds a record only if it has another state
joined-first : (r s d : ℕ) (es : List Gate) → length (joined r (record { state = s; duration = d } ∷ es)) ≤ cond (not (eqb r s)) 1 0 + suc (length es)
joined-first r s d es = go (eqb r s)
  where
    go : (b : Bool) → length {A = Gate} (elim b [
      | true ↦ record { state = r; duration = suc d } ∷ es
      | false ↦ record { state = r; duration = 1 } ∷ record { state = s; duration = d } ∷ es
    ]) ≤ cond (not b) 1 0 + suc (length es)
    go true = omega arith
    go false = omega arith

joined_length : (r s : ℕ) (es : List Gate) → length (joined r (joined s es)) ≤ cond (not (eqb r s)) 1 0 + length (joined s es)
joined_length r s [] = joined-first r s 1 []
joined_length r s (e ∷ es) = go (eqb s e.state)
  where
    after : Bool → List Gate
    after b = elim b [
      | true ↦ record { state = s; duration = suc e.duration } ∷ es
      | false ↦ record { state = s; duration = 1 } ∷ e ∷ es
    ]

    go : (b : Bool) → length (joined r (after b)) ≤ cond (not (eqb r s)) 1 0 + length (after b)
    go true = joined-first r s (suc e.duration) es
    go false = joined-first r s 1 (e ∷ es)

-- there is at most a record more than there are changes
pub recorded-length : (n y : ℕ) (states : ℕ → ℕ) → length (recorded states y n) ≤ suc (count (changes states) y n)
recorded-length zero y states = omega arith
recorded-length (suc zero) y states = omega arith
recorded-length (suc (suc n)) y states =
    let more = joined_length (states y) (states (suc y)) (recorded states (suc (suc y)) n) in
    let later = recorded-length (suc n) (suc y) states in
    omega arith

-- a flow marks 48 places at most: it has one hop on the port, and 16 periods in the cycle
flow-count : (net : Network) (G q : ℕ) (f : Flow) → Well net f → net.cycle / f.period ≤ 16 →
    count (λ y. any (λ h. eqb h.port q && marked G f h y) f.hops) 0 net.cycle ≤ 48
flow-count net G q f well few = go (decided_found (λ h. h.port ≡ q) f.hops (λ k h hop. ℕ_discrete h.port q))
  where
    test : ℕ → Bool
    test y = any (λ h. eqb h.port q && marked G f h y) f.hops

    -- the hop of a mark is the one on the port
    only : (y : ℕ) → T (test y) → Found (λ h. (h.port ≡ q) × T (marked G f h y)) f.hops
    only y pass =
        let found = any-only (λ h. eqb h.port q && marked G f h y) f.hops pass in
        let h = found.x in
        let (port, mark) = and-only (eqb h.port q) (marked G f h y) found.holds in
        record { n = found.n; x = h; at = found.at; holds = (eqb→eq h.port q port, mark) }

    go : Dec (Found (λ h. h.port ≡ q) f.hops) → count test 0 net.cycle ≤ 48
    go (yes on) =
        let h = on.x in
        let same = λ (y : ℕ) (pass : T (test y)).
        let found = only y pass in
        let port = found.holds.0 ∙ sym on.holds in
        subst (λ (i : Hop). T (marked G f i y)) (same-hop well found.at on.at port) found.holds.1 in
        let least = count-≤ test (marked G f h) 0 net.cycle same in
        let whole = ap (count (marked G f h) 0) well.divides in
        let most = marked-count f h G well.periods in
        let start = well.start in
        let pos : 0 < f.period = omega arith in
        let periods = div-eq_of_eq-mul_left pos well.divides in
        omega arith
    go (no none) =
        let never = λ (y : ℕ) (less : y < net.cycle) (pass : T (test (0 + y))).
        let found = only (0 + y) pass in
        none (record { n = found.n; x = found.x; at = found.at; holds = found.holds.0 }) in
        let zero = count_none test 0 net.cycle never in
        omega arith

flows-count : (net : Network) (G q : ℕ) (flows : List Flow) → ((j : ℕ) (f : Flow) → At flows j f → Well net f) →
    ((j : ℕ) (f : Flow) → At flows j f → net.cycle / f.period ≤ 16) →
    count (λ y. on_port (λ f h. marked G f h y) q flows) 0 net.cycle ≤ 48 * length flows
flows-count net G q [] each few = let none = count_none (λ y. false) 0 net.cycle (λ y less pass. pass) in omega arith
flows-count net G q (f ∷ flows) each few =
    let both =
    count_or (λ y. any (λ h. eqb h.port q && marked G f h y) f.hops) (λ y. on_port (λ f h. marked G f h y) q flows) 0 net.cycle in
    let one = flow-count net G q f (each 0 f here) (few 0 f here) in
    let others = flows-count net G q flows (λ j g flow. each (suc j) g (next flow)) (λ j g flow. few (suc j) g (next flow)) in
    omega arith

-- a gate list for 64 flows with at most 16 periods in the cycle has at most 3 × 16 × 64 + 1 records
pub gates-length : (net : Network) (flows : List Flow) (q : ℕ) → Formed net flows →
    ((j : ℕ) (f : Flow) → At flows j f → net.cycle / f.period ≤ 16) → length flows ≤ 64 → length (gates net flows q) ≤ 3073
gates-length net flows q formed few most =
    let records = recorded-length net.cycle 0 (state net flows q) in
    let marks =
    count-≤ (changes (state net flows q)) (λ y. on_port (λ f h. marked (guard net q) f h y) q flows) 0 net.cycle (change_marked formed q) in
    let all = flows-count net (guard net q) q flows formed.each few in
    omega arith
