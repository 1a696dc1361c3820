-- What a line of the input comes to.
-- Assumes nothing.
use Rattle.std.specs.Prelude.{◌≡◌, ℕ, List, Some, None, Option}
use Rattle.wires.specs.Orders.{Understood}
use Rattle.wires.specs.Performed.{Performed}
use Rattle.wires.specs.Words.{Words}
use Rattle.wires.specs.declared.answer.Answer.{Answer}
use Rattle.wires.specs.declared.answer.Answer.TheVariants.{NotUnderstood}
use Rattle.wires.specs.declared.command.Command.{Command}
use Rattle.wires.specs.declared.lines.Lines.{Lines}

-- a command is performed; where there is none, line n is not understood and nothing changes
abbrev pub Done : ℕ → Option Command → Lines → Answer → Lines → Type 0
Done n (Some c) before a after = Performed c before a after
Done n None before a after = (a ≡ NotUnderstood n) × (after ≡ before)

-- line n, of the octets bs, and what came of it
pub record Answered (n : ℕ) (bs : List ℕ) (before : Lines) (a : Answer) (after : Lines) : Type 0 where
  pub words : List (List ℕ)
  pub cut : Words bs words
  pub command : Option Command
  pub understood : Understood words command
  pub done : Done n command before a after
