-- The gate list of a port as the rows of a plan have it, and what of it is still to come.
-- Assumes nothing.
use Rattle.std.specs.Prelude.{List}
use Rattle.network.specs.Gates.{Gate}
use Rattle.planning.specs.Gates.{gates_by, gates_from}
use Rattle.plan.specs.declared.gates.PortGates.{PortGates}
use Rattle.plan.specs.declared.gates.GateRecords.{GateRecords}
use Rattle.plan.specs.Rows.{flows}

-- the gate list of the port
abbrev pub list : PortGates → List Gate
list p = gates_by p.guard p.cycle (flows p.rows.now) p.port

-- the gate records from the place on
abbrev pub left : GateRecords → List Gate
left r = gates_from r.gates.guard r.gates.cycle (flows r.gates.rows.now) r.gates.port r.place
