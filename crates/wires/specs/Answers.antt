-- The sentence that each answer prints, in octets.
-- Assumes nothing.
use Rattle.std.specs.Prelude.{ℕ, List, ◌++◌, codes, decimal}
use Rattle.fault.specs.Refusals.{refused}
use Rattle.fault.specs.Sentences.{sentence}
use Rattle.wires.specs.declared.answer.Answer.{Answer}
use Rattle.wires.specs.declared.answer.Answer.TheVariants.{Filled, Refused, Time, NotUnderstood}
use Rattle.wires.specs.declared.command.Kind.{Kind}
use Rattle.wires.specs.declared.command.Kind.TheVariants.{Ethernet, Cell}

-- the word for each kind of line
abbrev pub name : Kind → List ℕ
name Ethernet = codes "ethernet"
name Cell = codes "cell"

-- the sentence of each answer
abbrev pub told : Answer → List ℕ
told (Filled k n) = name k ++ (codes " line filled, ports: " ++ decimal n)
told (Refused k e) = name k ++ (codes " line not filled, refused " ++ (decimal (refused e).number ++ (codes ": " ++ sentence e)))
told (Time k w) = name k ++ (codes " line wire time: " ++ (decimal w ++ codes " ns"))
told (NotUnderstood n) = codes "line " ++ (decimal n ++ codes " of the input is not understood")
