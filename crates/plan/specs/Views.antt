-- A plan as its contracts see it: its line, and what it holds.
-- Assumes nothing.
use Rattle.line.specs.declared.line.Line.{Ghosts}
use Rattle.plan.specs.declared.plan.Plan.{Plan}
use Rattle.plan.specs.Calls.{Model, Wires}
use Rattle.plan.specs.Models.{model, wires}

-- the line of a plan
abbrev pub wires_of : {L : _} {line : Ghosts L} → Plan L line → Wires
wires_of {line} p = wires line.LARGEST (line.meaning p.line)

-- what a plan holds
abbrev pub held_by : {L : _} {line : Ghosts L} → Plan L line → Model
held_by p = model p.setup p.rows
