-- The answers of a plan that is set up, from what its rows hold.
-- Assumes nothing.
use Rattle.std.proofs.Common.{◌≡◌, ℕ, Some, None, Ok, Err, Option, Result, ap, ◌∙◌, arith}
use Rattle.fault.specs.declared.kinds.PlanFault.{PlanFault}
use Rattle.fault.specs.declared.kinds.PlanFault.TheVariants.{NotSetUp, NotHeld}
use Rattle.planning.specs.Setups.{Setup}
use Rattle.plan.specs.Calls.{Model, start_of, start_answer}

-- what is set up is not left unset
pub never_both : {A : Type 0} {o : Option A} {x : A} {P : Type 0} → o ≡ Some x → o ≡ None → P
never_both some none = let never : ◌≡◌ {A = ℕ} 0 1 = cc in absurd (omega arith)

-- the answer from the start that was found, if any
abbrev pub found : Option ℕ → Result ℕ PlanFault
found o = elim o [ None ↦ Err NotHeld | Some s ↦ Ok s ]

-- a plan that is set up answers by what it holds
pub start-answered : (m : Model) (c : Setup) (n : ℕ) (o : Option ℕ) → m.setup ≡ Some c → start_of n m.held ≡ o → start_answer m n ≡ found o
start-answered m c n o ready is =
    ap (λ (s : Option Setup). elim s [ None ↦ Err NotSetUp | Some c ↦ found (start_of n m.held) ]) ready ∙ ap found is
