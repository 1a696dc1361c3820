-- The word writes the number that parse gives.
use Rattle.std.proofs.Common.{rules}
use Rattle.wires.specs.Orders.{IsNumber}
use Rattle.wires.proofs.read.number.Goals as goal

pub returns : goal.returns
returns g c =
    let number : IsNumber c.args.word.now c.in_ok-number.number = search rules in
    record { cases = (c.in_ok-number.number, c.try_from.result, number, c.try_from.ensures, c.unwrap_or.ensures) }
