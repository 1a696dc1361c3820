-- From what each call answers and leaves to the answer and the state that are defined for it.
-- Assumes nothing.
use Rattle.std.proofs.Common.{◌≡◌, ℕ, List, Some, Ok, Err, Option, Result, refl, ap, subst, Bor}
use Rattle.fault.specs.declared.kinds.PlanFault.{PlanFault}
use Rattle.network.specs.Flows.{Flow}
use Rattle.planning.specs.Lists.{Same}
use Rattle.planning.specs.Setups.{Setup}
use Rattle.planning.proofs.Same.{same_refl}
use Rattle.plan.specs.declared.call.Call.TheVariants.{SetUp, Offer, Withdraw}
use Rattle.plan.specs.declared.call.Reply.TheVariants.{Done}
use Rattle.plan.specs.Alike.{Alike}
use Rattle.plan.specs.Calls.{Wires, Model, set_up_answer, offer_answer, withdraw_answer, left}
use Rattle.plan.specs.declared.row.Row.{Row}
use Rattle.plan.specs.declared.setup.Setup as declared
use Rattle.plan.specs.Models.{model, setup}
use Rattle.plan.specs.Rows.{flows}
use Rattle.plan.specs.Steps.{next, added, told}

-- equal lists have the same elements
pub same_of : {xs ys : List Flow} → xs ≡ ys → Same xs ys
same_of {xs} e = subst (λ (zs : List Flow). Same xs zs) e (same_refl xs)

-- equal states are alike
pub alike_of : {m m' : Model} → m ≡ m' → Alike m m'
alike_of e = record { setup = ap (λ (m : Model). m.setup) e; held = same_of (ap (λ (m : Model). m.held) e) }

-- an answer without its value
abbrev pub forgot : {A : Type 0} → Result A PlanFault → Result (Unit {0}) PlanFault
forgot (Ok x) = Ok tt
forgot (Err e) = Err e

-- an answer told without its value
pub told_forgot : {A : Type 0} (a : Result A PlanFault) → told (λ _. Done) (forgot a) ≡ told (λ _. Done) a
told_forgot (Ok x) = refl
told_forgot (Err e) = refl

-- what is held after an offer that was answered so
abbrev pub Held : Wires → Model → Model → List ℕ → ℕ → Result ℕ PlanFault → Type 0
Held w m m' sheet k (Ok s) = Same m'.held (added w m sheet k s)
Held w m m' sheet k (Err e) = Same m'.held m.held

-- what is held after a withdrawal that was answered so
abbrev pub Left : Model → Model → ℕ → Result (Unit {0}) PlanFault → Type 0
Left m m' i (Ok u) = m'.held ≡ left i m.held
Left m m' i (Err e) = m'.held ≡ m.held

module _ (w : Wires) (m m' : Model) where
  pub offer_called : (sheet : Bor (List ℕ)) (k : ℕ) (a : Result ℕ PlanFault) → a ≡ offer_answer w m sheet.now k → m'.setup ≡ m.setup → Held w m m' sheet.now k a → Alike m' (next w m (Offer sheet k))
  offer_called sheet k a is setup held = go (offer_answer w m sheet.now k) (subst (Held w m m' sheet.now k) is held)
    where
      go : (a : Result ℕ PlanFault) → Held w m m' sheet.now k a → Alike m' (elim a [ Ok s ↦ record { setup = m.setup; held = added w m sheet.now k s } | Err _ ↦ m ])
      go (Ok s) held = record { setup = setup; held = held }
      go (Err e) held = record { setup = setup; held = held }

  pub withdraw_called : (i : ℕ) (a : Result (Unit {0}) PlanFault) → a ≡ withdraw_answer m i → m'.setup ≡ m.setup → Left m m' i a → Alike m' (next w m (Withdraw i))
  withdraw_called i a is setup held = go (withdraw_answer m i) (subst (Left m m' i) is held)
    where
      go : (a : Result (Unit {0}) PlanFault) → Left m m' i a → Alike m' (elim a [ Ok _ ↦ record { setup = m.setup; held = left i m.held } | Err _ ↦ m ])
      go (Ok u) held = record { setup = setup; held = same_of held }
      go (Err e) held = record { setup = setup; held = same_of held }

-- from the set-up and the rows before and after a call
module _ (w : Wires) (o o' : Option declared.Setup) (rows rows' : List Row) where
  -- a set-up leaves the rows as they were
  pub set_up_called : (C : ℕ) (sheet : Bor (List ℕ)) → rows' ≡ rows →
      elim (set_up_answer w (model o rows) C sheet.now) as (λ _. Type 0) [ Ok c ↦ setup o' ≡ Some c | Err _ ↦ o' ≡ o ] → Alike (model o' rows') (next w (model o rows) (SetUp C sheet))
  set_up_called C sheet held = go (set_up_answer w (model o rows) C sheet.now)
    where
      go : (a : Result Setup PlanFault) → elim a as (λ _. Type 0) [ Ok c ↦ setup o' ≡ Some c | Err _ ↦ o' ≡ o ] →
          Alike (model o' rows') (elim a [ Ok c ↦ record { setup = Some c; held = flows rows } | Err _ ↦ model o rows ])
      go (Ok c) is = record { setup = is; held = same_of (ap flows held) }
      go (Err e) is = record { setup = ap setup is; held = same_of (ap flows held) }

  -- an offer leaves the set-up as it was, and so does a withdrawal
  pub rows_offered : (sheet : Bor (List ℕ)) (k : ℕ) (a : Result ℕ PlanFault) → a ≡ offer_answer w (model o rows) sheet.now k → o' ≡ o →
      elim a as (λ _. Type 0) [ Ok s ↦ Same (flows rows') (added w (model o rows) sheet.now k s) | Err _ ↦ rows' ≡ rows ] → Alike (model o' rows') (next w (model o rows) (Offer sheet k))
  rows_offered sheet k a is same after = offer_called w (model o rows) (model o' rows') sheet k a is (ap setup same) (go a after)
    where
      go : (a : Result ℕ PlanFault) → elim a as (λ _. Type 0) [ Ok s ↦ Same (flows rows') (added w (model o rows) sheet.now k s) | Err _ ↦ rows' ≡ rows ] →
          Held w (model o rows) (model o' rows') sheet.now k a
      go (Ok s) held = held
      go (Err e) held = same_of (ap flows held)

  pub rows_withdrawn : (i : ℕ) (a : Result (Unit {0}) PlanFault) → a ≡ withdraw_answer (model o rows) i → o' ≡ o →
      elim a as (λ _. Type 0) [ Ok _ ↦ flows rows' ≡ left i (flows rows) | Err _ ↦ rows' ≡ rows ] → Alike (model o' rows') (next w (model o rows) (Withdraw i))
  rows_withdrawn i a is same after = withdraw_called w (model o rows) (model o' rows') i a is (ap setup same) (go a after)
    where
      go : (a : Result (Unit {0}) PlanFault) → elim a as (λ _. Type 0) [ Ok _ ↦ flows rows' ≡ left i (flows rows) | Err _ ↦ rows' ≡ rows ] → Left (model o rows) (model o' rows') i a
      go (Ok u) held = held
      go (Err e) held = ap flows held
