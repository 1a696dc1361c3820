-- The lines that the interface fills, as the calls of a plan see them.
-- Assumes nothing.
use Rattle.std.specs.Prelude.{ℕ, List}
use Rattle.line.specs.contracts.cell.times.CellLine.TheImpl.{ghosts as cell_line}
use Rattle.line.specs.contracts.ethernet.times.EthernetLine.TheImpl.{ghosts as ethernet_line}
use Rattle.line.specs.Codes.{coded, celled}
use Rattle.plan.specs.Calls.{Wires}
use Rattle.plan.specs.Models.{wires}

-- an Ethernet line whose ports have these rate codes
abbrev pub ethernet : List ℕ → Wires
ethernet codes = wires ethernet_line.LARGEST (coded codes)

-- a cell line with N ports, cells of z octets and w ns for a cell
abbrev pub cells : ℕ → ℕ → ℕ → Wires
cells N z w = wires cell_line.LARGEST (celled N z w)
