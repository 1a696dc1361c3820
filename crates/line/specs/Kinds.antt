-- What the two kinds of line that are built mean as lines.
-- Assumes nothing.
use Rattle.line.specs.Meaning.{Meaning}
use Rattle.line.specs.contracts.cell.times.CellLine.TheImpl.{ghosts as cell_line}
use Rattle.line.specs.contracts.ethernet.times.EthernetLine.TheImpl.{ghosts as ethernet_line}
use Rattle.line.specs.declared.cell.Cell.{Cell}
use Rattle.line.specs.declared.ethernet.Ethernet.{Ethernet}

-- an Ethernet line, by the meaning that its implementation of the trait gives
abbrev pub ethernet_meaning : Ethernet → Meaning
ethernet_meaning = ethernet_line.meaning

-- a cell line, by the meaning that its implementation of the trait gives
abbrev pub cell_meaning : Cell → Meaning
cell_meaning = cell_line.meaning
