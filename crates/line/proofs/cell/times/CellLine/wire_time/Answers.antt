-- The cells are the length over their size, rounded up.
use Rattle.std.proofs.Common.{◌<◌, arith}
use Rattle.std.proofs.lemmas.Grind.{common_steps}
use Rattle.line.proofs.Cells.{div_ceil-is}
use Rattle.line.proofs.cell.times.CellLine.wire_time.Goals as goal

pub returns-clause-value : goal.returns-clause-value
returns-clause-value c =
    let some : 0 < c.args.self.now.size = omega (arith, c.args.self.now.size_least) in
    let is = div_ceil-is c.args.length c.args.self.now.size some in
    let counted = c.div_ceil.ensures in
    grind (arith, common_steps, is, counted)
