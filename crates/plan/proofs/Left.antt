-- What is still to come of a gate list: its first record, and how many there are.
-- Assumes nothing.
use Rattle.std.proofs.Common.{◌≡◌, ℕ, zero, suc, ◌-◌, ◌≤◌, Bool, true, false, eqb, List, [], ◌∷◌, length, subst, arith}
use Rattle.network.specs.Gates.{Gate}
use Rattle.planning.specs.Gates.{state_by, recorded, joined}
use Rattle.plan.specs.declared.gates.GateRecords.{GateRecords}
use Rattle.plan.specs.GateLists.{left}
use Rattle.plan.specs.Rows.{flows}

-- the first record lasts from 1 place to n
abbrev FirstUpTo : ℕ → List Gate → Type 0
FirstUpTo n [] = Unit {0}
FirstUpTo n (e ∷ es) = (1 ≤ e.duration) × (e.duration ≤ n)

first_recorded : (states : ℕ → ℕ) (y n : ℕ) → FirstUpTo n (recorded states y n)
first_recorded states y zero = tt
first_recorded states y (suc n) = go (recorded states (suc y) n) (first_recorded states (suc y) n)
  where
    go : (es : List Gate) → FirstUpTo n es → FirstUpTo (suc n) (joined (states y) es)
    go [] first = (omega arith, omega arith)
    go (e ∷ es) first = by_state (eqb (states y) e.state)
      where
        by_state : (same : Bool) →
            FirstUpTo (suc n) (elim same [ true ↦ record { state = states y; duration = suc e.duration } ∷ es | false ↦ record { state = states y; duration = 1 } ∷ e ∷ es ])
        by_state true = (omega arith, let most = first.1 in omega arith)
        by_state false = (omega arith, omega arith)

length-recorded : (states : ℕ → ℕ) (y n : ℕ) → length (recorded states y n) ≤ n
length-recorded states y zero = omega arith
length-recorded states y (suc n) = go (recorded states (suc y) n) (length-recorded states (suc y) n)
  where
    go : (es : List Gate) → length es ≤ n → length (joined (states y) es) ≤ suc n
    go [] few = omega arith
    go (e ∷ es) few = by_state (eqb (states y) e.state)
      where
        by_state : (same : Bool) →
            length (elim same as (λ (_ : Bool). List Gate) [ true ↦ record { state = states y; duration = suc e.duration } ∷ es | false ↦ record { state = states y; duration = 1 } ∷ e ∷ es ]) ≤ suc n
        by_state true = omega arith
        by_state false = omega arith

-- a record that comes next is within the limits of one
pub left-first : (r : GateRecords) (e : Gate) (es : List Gate) → left r ≡ e ∷ es → (1 ≤ e.duration) × (e.duration ≤ 1000000000)
left-first r e es is =
    let gates = r.gates in
    let first = subst (FirstUpTo (gates.cycle - r.place)) is (first_recorded (state_by gates.guard (flows gates.rows.now) gates.port) r.place (gates.cycle - r.place)) in
    let most = gates.cycle_most in
    (first.0, let le = first.1 in omega arith)

pub length-left : (r : GateRecords) → length (left r) ≤ 1000000000
length-left r =
    let gates = r.gates in
    let few = length-recorded (state_by gates.guard (flows gates.rows.now) gates.port) r.place (gates.cycle - r.place) in
    let most = gates.cycle_most in
    omega arith
