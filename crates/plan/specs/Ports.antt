-- A port that a set-up stores.
-- Assumes nothing.
use Rattle.sheet.specs.declared.port.PortRecord.{PortRecord}
use Rattle.planning.specs.Setups as planning
use Rattle.plan.specs.declared.setup.Port.{Port}

-- the port that is stored
abbrev pub port : Port → planning.Port
port p = record { delay = p.delay; processing = p.processing; best = p.best }

-- the port that is stored of a port record
abbrev pub stored : PortRecord → Port
stored x = record { delay = x.delay; processing = x.processing; best = x.best_effort }

-- a port that is not there
abbrev pub blank : Port
blank = record { delay = 0; processing = 0; best = 0 }
