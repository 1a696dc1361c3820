-- What every plan that can exist keeps of its rows and its set-up, beside what each row keeps.
-- Assumes nothing.
use Rattle.std.specs.Prelude.{◌≡◌, ℕ, ◌<◌, List, length, get_or, None, Option, slice_index_or}
use Rattle.network.specs.Flows.{Flow}
use Rattle.plan.specs.declared.row.Row.{Row}
use Rattle.plan.specs.declared.row.State.TheVariants.{Held}
use Rattle.plan.specs.declared.setup.Setup.{Setup}
use Rattle.plan.specs.Rows.{flow, flows, none}

-- two rows that hold flows are related
pub record Two (R : Flow → Flow → Type 0) (rows : List Row) : Type 0 where
  pub i : ℕ
  pub j : ℕ
  pub less : i < j
  pub row : j < 64
  pub one : (get_or rows i none).state ≡ Held
  pub other : (get_or rows j none).state ≡ Held
  pub related : R (flow (slice_index_or rows i none)) (flow (slice_index_or rows j none))

-- two flows have one number
abbrev pub Namesakes : Flow → Flow → Type 0
Namesakes f g = f.number ≡ g.number

-- a plan that is not set up holds no flow
abbrev pub Waiting : Option Setup → List Row → Type 0
Waiting o rows = o ≡ None → length (flows rows) ≡ 0
