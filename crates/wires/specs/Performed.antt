-- What each command does to the two lines, and what it answers.
-- Assumes nothing.
use Rattle.std.specs.Prelude.{◌≡◌, ℕ, List, Ok, Err, vec_items, Result}
use Rattle.fault.specs.declared.kinds.PlanFault.{PlanFault}
use Rattle.line.specs.Fillings.{EthernetFilled, CellFilled}
use Rattle.line.specs.Kinds.{ethernet_meaning, cell_meaning}
use Rattle.wires.specs.declared.answer.Answer.{Answer}
use Rattle.wires.specs.declared.answer.Answer.TheVariants.{Filled, Refused, Time}
use Rattle.wires.specs.declared.command.Command.{Command}
use Rattle.wires.specs.declared.command.Command.TheVariants.{FillEthernet, FillCell, WireTime}
use Rattle.wires.specs.declared.command.Kind.{Kind}
use Rattle.wires.specs.declared.command.Kind.TheVariants.{Ethernet, Cell}
use Rattle.wires.specs.declared.lines.Lines.{Lines}

-- the wire time of a length on a port of the line of a kind
abbrev pub time_of : Kind → Lines → ℕ → ℕ → ℕ
time_of Ethernet x q l = (ethernet_meaning x.ethernet).time q l
time_of Cell x q l = (cell_meaning x.cell).time q l

-- the answer to a filling that came out as r and left N ports
abbrev pub filling : Kind → Result (Unit {0}) PlanFault → ℕ → Answer
filling k (Ok _) N = Filled k N
filling k (Err e) N = Refused k e

-- the Ethernet line was filled with rate codes or refused them, and the cell line is as it was
pub record FilledEthernet (cs : List ℕ) (before : Lines) (a : Answer) (after : Lines) : Type 0 where
  pub result : Result (Unit {0}) PlanFault
  pub filled : EthernetFilled cs before.ethernet result after.ethernet
  pub answer : a ≡ filling Ethernet result (ethernet_meaning after.ethernet).ports
  pub other : after.cell ≡ before.cell

-- the cell line was filled or refused the filling, and the Ethernet line is as it was
pub record FilledCell (N z w : ℕ) (before : Lines) (a : Answer) (after : Lines) : Type 0 where
  pub result : Result (Unit {0}) PlanFault
  pub filled : CellFilled N z w before.cell result after.cell
  pub answer : a ≡ filling Cell result (cell_meaning after.cell).ports
  pub other : after.ethernet ≡ before.ethernet

-- a command, the lines before it, its answer and the lines after it
abbrev pub Performed : Command → Lines → Answer → Lines → Type 0
Performed (FillEthernet v) before a after = FilledEthernet (vec_items v) before a after
Performed (FillCell N z w) before a after = FilledCell N z w before a after
Performed (WireTime k q l) before a after = (a ≡ Time k (time_of k before q l)) × (after ≡ before)
