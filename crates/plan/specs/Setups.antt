-- What a plan stores of its set-up.
-- Assumes nothing.
use Rattle.std.specs.Prelude.{map, take}
use Rattle.planning.specs.Setups as planning
use Rattle.plan.specs.declared.setup.Setup.{Setup}
use Rattle.plan.specs.Ports.{port}

-- the set-up that is stored
abbrev pub setup : Setup → planning.Setup
setup c = record { cycle = c.cycle; ports = map port (take c.count c.ports) }
