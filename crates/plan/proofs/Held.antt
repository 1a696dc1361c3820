-- The flows that rows hold, by row: which numbers are held, how many rows are free, and one row that changes.
-- Assumes nothing.
use Rattle.std.proofs.Common.{◌≡◌, ℕ, zero, suc, ◌<◌, ◌≤◌, Bool, true, false, ◌||◌, eqb, leb, List, [], ◌∷◌, length, get_or, set, Some, None, Option, sym, refl, ap, ◌∙◌, subst, arith, eq-eqb}
use Rattle.std.specs.Prelude.{MatchOption, is_some}
use Rattle.std.specs.List.{AllWithin, HoldsAt}
use Rattle.std.proofs.lemmas.Bool.{eqb-true, lt-leb}
use Rattle.network.specs.Flows.{At, here, next, Flow}
use Rattle.network.proofs.Lists.{At-empty}
use Rattle.planning.specs.Lists.{without, Same, keep, swap, then}
use Rattle.planning.specs.Offers.{held}
use Rattle.planning.proofs.Lists.{kept}
use Rattle.planning.proofs.Same.{same_refl}
use Rattle.plan.specs.declared.row.Row.{Row}
use Rattle.plan.specs.declared.row.State.{State}
use Rattle.plan.specs.declared.row.State.TheVariants.{Free, Held}
use Rattle.plan.specs.Calls.{start_of}
use Rattle.plan.specs.Rows.{flow, flows, none, Holds, IsFree}
use Rattle.plan.proofs.Any.{or_true}

-- the flows of a row of some state before others
abbrev more : State → Row → List Flow → List Flow
more state r fs = elim state [ Free ↦ fs | Held ↦ flow r ∷ fs ]

held-state : (r : Row) → (r.state ≡ Free → ⊥) → r.state ≡ Held
held-state r busy = go r.state busy
  where
    go : (state : State) → (state ≡ Free → ⊥) → state ≡ Held
    go Free busy = absurd (busy refl)
    go Held busy = refl

-- no row holds number n
pub held_none : (n : ℕ) (rows : List Row) → ((k : ℕ) → k < length rows → Holds n (get_or rows k none) → ⊥) → held n (flows rows) ≡ false
held_none n [] free = refl
held_none n (r ∷ rows) free = go r.state refl (held_none n rows (λ k below. free (suc k) (omega arith)))
  where
    other : (b : Bool) → eqb r.number n ≡ b → r.state ≡ Held → b ≡ false
    other true e busy = absurd (free 0 (omega arith) (busy, eqb-true r.number n e))
    other false e busy = refl

    go : (state : State) → r.state ≡ state → held n (flows rows) ≡ false → held n (more state r (flows rows)) ≡ false
    go Free is rest = rest
    go Held is rest = ap (λ (b : Bool). b || held n (flows rows)) (other (eqb r.number n) refl is) ∙ rest

-- what a search for the first row that holds number n tells
pub first_held : (n : ℕ) (rows : List Row) (r : Option ℕ) →
    MatchOption r (AllWithin (λ row. Holds n row → ⊥) rows 0 (length rows)) (λ k. (k < length rows) × HoldsAt (Holds n) rows k × AllWithin (λ row. Holds n row → ⊥) rows 0 k) →
    MatchOption r (held n (flows rows) ≡ false) (λ k. (k < length rows) × Holds n (get_or rows k none) × ((j : ℕ) → j < k → Holds n (get_or rows j none) → ⊥))
first_held n rows None others = held_none n rows (λ k below. others k none (omega arith) below)
first_held n rows (Some k) first = (first.0, first.1 none, λ j less. first.2 j none (omega arith) less)

-- the first row that holds number n has its start
pub start-found : (n : ℕ) (rows : List Row) (k : ℕ) → k < length rows → Holds n (get_or rows k none) → ((j : ℕ) → j < k → Holds n (get_or rows j none) → ⊥) → start_of n (flows rows) ≡ Some (get_or rows k none).start
start-found n [] k below holds first = absurd (omega arith)
start-found n (r ∷ rows) zero below holds first =
    subst (λ (state : State). start_of n (more state r (flows rows)) ≡ Some r.start) (sym holds.0)
    (subst (λ (b : Bool). elim b [ true ↦ Some r.start | false ↦ start_of n (flows rows) ] ≡ Some r.start) (sym (eq-eqb r.number n holds.1)) refl)
start-found n (r ∷ rows) (suc k) below holds first = go r.state refl (start-found n rows k (omega arith) holds (λ j less. first (suc j) (omega arith)))
  where
    other : (b : Bool) → eqb r.number n ≡ b → r.state ≡ Held → start_of n (flows rows) ≡ Some (get_or rows k none).start →
        elim b [ true ↦ Some r.start | false ↦ start_of n (flows rows) ] ≡ Some (get_or rows k none).start
    other true e busy rest = absurd (first 0 (omega arith) (busy, eqb-true r.number n e))
    other false e busy rest = rest

    go : (state : State) → r.state ≡ state → start_of n (flows rows) ≡ Some (get_or rows k none).start → start_of n (more state r (flows rows)) ≡ Some (get_or rows k none).start
    go Free is rest = rest
    go Held is rest = other (eqb r.number n) refl is rest

-- no flow has number n
pub start_none : (n : ℕ) (fs : List Flow) → held n fs ≡ false → start_of n fs ≡ None
start_none n [] e = refl
start_none n (f ∷ fs) e = go (eqb f.number n) e (λ rest. start_none n fs rest)
  where
    go : (b : Bool) → (b || held n fs) ≡ false → (held n fs ≡ false → start_of n fs ≡ None) → ◌≡◌ {A = Option ℕ} (elim b [ true ↦ Some f.start | false ↦ start_of n fs ]) None
    go true e rest = let never : ◌≡◌ {A = ℕ} 0 1 = cc in absurd (omega arith)
    go false e rest = rest e

-- nothing is left out where no flow has number n
without-none : (n : ℕ) (fs : List Flow) → held n fs ≡ false → without (λ f. eqb f.number n) fs ≡ fs
without-none n [] e = refl
without-none n (f ∷ fs) e = go (eqb f.number n) e (λ rest. without-none n fs rest)
  where
    go : (b : Bool) → (b || held n fs) ≡ false → (held n fs ≡ false → without (λ f. eqb f.number n) fs ≡ fs) → kept b f (without (λ f. eqb f.number n) fs) ≡ f ∷ fs
    go true e rest = let never : ◌≡◌ {A = ℕ} 0 1 = cc in absurd (omega arith)
    go false e rest = ap (λ (gs : List Flow). f ∷ gs) (rest e)

-- without the only row that holds number n
pub flows_removed : (n : ℕ) (rows : List Row) (k : ℕ) (new : Row) → k < length rows → Holds n (get_or rows k none) → new.state ≡ Free →
    ((j : ℕ) → j < length rows → Holds n (get_or rows j none) → j ≡ k) → flows (set rows k new) ≡ without (λ f. eqb f.number n) (flows rows)
flows_removed n [] k new below holds is only = absurd (omega arith)
flows_removed n (r ∷ rows) zero new below holds is only =
    let rest = held_none n rows (λ j within found. let same = only (suc j) (omega arith) found in omega arith) in
    let out : without (λ f. eqb f.number n) (more Held r (flows rows)) ≡ flows rows =
    ap (λ (b : Bool). kept b (flow r) (without (λ f. eqb f.number n) (flows rows))) (eq-eqb r.number n holds.1) ∙ without-none n (flows rows) rest in
    ap (λ (state : State). more state new (flows rows)) is ∙ sym out ∙ ap (λ (state : State). without (λ f. eqb f.number n) (more state r (flows rows))) (sym holds.0)
flows_removed n (r ∷ rows) (suc k) new below holds is only =
    go r.state refl (flows_removed n rows k new (omega arith) holds is (λ j within found. let same = only (suc j) (omega arith) found in omega arith))
  where
    other : (b : Bool) → eqb r.number n ≡ b → r.state ≡ Held → b ≡ false
    other true e busy = let same = only 0 (omega arith) (busy, eqb-true r.number n e) in absurd (omega arith)
    other false e busy = refl

    go : (state : State) → r.state ≡ state → flows (set rows k new) ≡ without (λ f. eqb f.number n) (flows rows) →
        more state r (flows (set rows k new)) ≡ without (λ f. eqb f.number n) (more state r (flows rows))
    go Free at same = same
    go Held at same =
        ap (λ (gs : List Flow). flow r ∷ gs) same
        ∙ ap (λ (b : Bool). kept b (flow r) (without (λ f. eqb f.number n) (flows rows))) (sym (other (eqb r.number n) refl at))

-- a row that holds number n holds it
pub held-some : (n : ℕ) (rows : List Row) (k : ℕ) → k < length rows → Holds n (get_or rows k none) → held n (flows rows) ≡ true
held-some n [] k below holds = absurd (omega arith)
held-some n (r ∷ rows) zero below holds =
    subst (λ (state : State). held n (more state r (flows rows)) ≡ true) (sym holds.0) (ap (λ (b : Bool). b || held n (flows rows)) (eq-eqb r.number n holds.1))
held-some n (r ∷ rows) (suc k) below holds = go r.state (held-some n rows k (omega arith) holds)
  where
    go : (state : State) → held n (flows rows) ≡ true → held n (more state r (flows rows)) ≡ true
    go Free e = e
    go Held e = ap (λ (b : Bool). eqb r.number n || b) e ∙ or_true (eqb r.number n)

-- whether a search for it found a row tells whether it is held
pub held-found : (n : ℕ) (rows : List Row) (r : Option ℕ) →
    MatchOption r (held n (flows rows) ≡ false) (λ k. (k < length rows) × Holds n (get_or rows k none) × ((j : ℕ) → j < k → Holds n (get_or rows j none) → ⊥)) →
    held n (flows rows) ≡ is_some r
held-found n rows None cases = cases
held-found n rows (Some k) cases = held-some n rows k cases.0 cases.1

-- the flow of a row that holds one is one of the flows
pub flows-at : (rows : List Row) (k : ℕ) → k < length rows → (get_or rows k none).state ≡ Held → (j : ℕ) × At (flows rows) j (flow (get_or rows k none))
flows-at [] k below busy = absurd (omega arith)
flows-at (r ∷ rows) zero below busy = subst (λ (state : State). (j : ℕ) × At (more state r (flows rows)) j (flow r)) (sym busy) (0, here)
flows-at (r ∷ rows) (suc k) below busy = go r.state (flows-at rows k (omega arith) busy)
  where
    go : (state : State) → (j : ℕ) × At (flows rows) j (flow (get_or rows k none)) → (j : ℕ) × At (more state r (flows rows)) j (flow (get_or rows k none))
    go Free at = at
    go Held at = (suc at.0, next at.1)

-- what each row keeps, each flow does
pub each-flow : (P : Flow → Type 0) (rows : List Row) → ((k : ℕ) → k < length rows → P (flow (get_or rows k none))) → (j : ℕ) (f : Flow) → At (flows rows) j f → P f
each-flow P [] each j f at = absurd (At-empty at)
each-flow P (r ∷ rows) each j f at = go (each-flow P rows (λ k below. each (suc k) (omega arith))) r.state j f at
  where
    go : ((j : ℕ) (f : Flow) → At (flows rows) j f → P f) → (state : State) (j : ℕ) (f : Flow) → At (more state r (flows rows)) j f → P f
    go rest Free j f at = rest j f at
    go rest Held zero f here = each 0 (omega arith)
    go rest Held (suc j) f (next at) = rest j f at

-- every row holds a flow
pub flows_full : (rows : List Row) → ((k : ℕ) → k < length rows → IsFree (get_or rows k none) → ⊥) → length (flows rows) ≡ length rows
flows_full [] busy = refl
flows_full (r ∷ rows) busy =
    subst (λ (state : State). length (more state r (flows rows)) ≡ suc (length rows)) (sym (held-state r (busy 0 (omega arith))))
    (ap suc (flows_full rows (λ k below. busy (suc k) (omega arith))))

-- what a search for the first free row tells
pub first_free : (rows : List Row) (r : Option ℕ) →
    MatchOption r (AllWithin (λ row. IsFree row → ⊥) rows 0 (length rows)) (λ k. (k < length rows) × HoldsAt IsFree rows k × AllWithin (λ row. IsFree row → ⊥) rows 0 k) →
    MatchOption r (length (flows rows) ≡ length rows) (λ k. (k < length rows) × IsFree (get_or rows k none))
first_free rows None others = flows_full rows (λ k below. others k none (omega arith) below)
first_free rows (Some k) first = (first.0, first.1 none)

pub flows-few : (rows : List Row) → length (flows rows) ≤ length rows
flows-few [] = omega arith
flows-few (r ∷ rows) = go r.state (flows-few rows)
  where
    go : (state : State) → length (flows rows) ≤ length rows → length (more state r (flows rows)) ≤ suc (length rows)
    go Free few = omega arith
    go Held few = omega arith

-- some row is free
pub flows-room : (rows : List Row) (k : ℕ) → k < length rows → IsFree (get_or rows k none) → length (flows rows) < length rows
flows-room [] k below is = absurd (omega arith)
flows-room (r ∷ rows) zero below is =
    let few = flows-few rows in
    subst (λ (state : State). length (more state r (flows rows)) < suc (length rows)) (sym is) (omega arith)
flows-room (r ∷ rows) (suc k) below is = go r.state (flows-room rows k (omega arith) is)
  where
    go : (state : State) → length (flows rows) < length rows → length (more state r (flows rows)) < suc (length rows)
    go Free room = omega arith
    go Held room = omega arith

-- so fewer than 64 flows are held
pub room-left : (rows : List Row) (k : ℕ) → length rows ≡ 64 → k < length rows → IsFree (get_or rows k none) → leb 64 (length (flows rows)) ≡ false
room-left rows k long below is = let room = flows-room rows k below is in lt-leb 64 (length (flows rows)) (omega arith)

-- a flow in a row that was free
pub flows-added : (rows : List Row) (k : ℕ) (new : Row) → k < length rows → IsFree (get_or rows k none) → new.state ≡ Held → Same (flows (set rows k new)) (flow new ∷ flows rows)
flows-added [] k new below is busy = absurd (omega arith)
flows-added (r ∷ rows) zero new below is busy =
    subst (λ (state : State). Same (more new.state new (flows rows)) (flow new ∷ more state r (flows rows))) (sym is)
    (subst (λ (state : State). Same (more state new (flows rows)) (flow new ∷ flows rows)) (sym busy) (same_refl (flow new ∷ flows rows)))
flows-added (r ∷ rows) (suc k) new below is busy = go r.state (flows-added rows k new (omega arith) is busy)
  where
    go : (state : State) → Same (flows (set rows k new)) (flow new ∷ flows rows) → Same (more state r (flows (set rows k new))) (flow new ∷ more state r (flows rows))
    go Free same = same
    go Held same = then (keep same) swap
