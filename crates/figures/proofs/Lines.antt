-- The worked figures of the wire times.
-- Assumes nothing.
use Rattle.std.proofs.Common.{rules}
use Rattle.line.specs.Figures.{LineFigures}

pub line_figures : LineFigures
line_figures = search rules
