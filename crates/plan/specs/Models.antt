-- What the rows and the set-up of a plan stand for.
-- Assumes nothing.
use Rattle.std.specs.Prelude.{ℕ, List, Some, None, Option}
use Rattle.line.specs.Meaning.{Meaning}
use Rattle.planning.specs.Setups as planning
use Rattle.plan.specs.declared.row.Row.{Row}
use Rattle.plan.specs.declared.setup.Setup.{Setup}
use Rattle.plan.specs.Calls.{Model, Wires}
use Rattle.plan.specs.Rows.{flows}
use Rattle.plan.specs.Setups as stored

-- the set-up that is stored, if any
abbrev pub setup : Option Setup → Option planning.Setup
setup None = None
setup (Some c) = Some (stored.setup c)

-- what a plan with this set-up and these rows holds
abbrev pub model : Option Setup → List Row → Model
model o rows = record { setup = setup o; held = flows rows }

-- a line whose largest frame is `most` and that means m
abbrev pub wires : ℕ → Meaning → Wires
wires most m = record { most = most; meaning = m }
