-- Two states of a plan that no call tells apart.
-- Assumes nothing.
use Rattle.std.specs.Prelude.{◌≡◌}
use Rattle.planning.specs.Lists.{Same}
use Rattle.plan.specs.Calls.{Model}

-- the same set-up, and the same flows in any order
pub record Alike (m m' : Model) : Type 0 where
  pub setup : m.setup ≡ m'.setup
  pub held : Same m.held m'.held
