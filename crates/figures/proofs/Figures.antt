-- The worked figures: the gate list stretch by stretch, the rest by computation.
-- Assumes nothing.
use Rattle.std.proofs.Common.{refl}
use Rattle.std.specs.Fmt.{digits}
use Rattle.spans.specs.Formula.{gcd, shares}
use Rattle.spans.specs.Places.{ahead}
use Rattle.figures.specs.Figures.{WorkedFigures}
use Rattle.figures.proofs.Gates.{case-gates-listed, case-octets-buffered}
use Rattle.figures.proofs.Lines.{line_figures}

pub worked_figures : WorkedFigures
unfolding shares gcd ahead digits
worked_figures = record {
  lines = line_figures;
  output = refl;
  gates_of_port_1 = case-gates-listed;
  octets_of_port_1 = case-octets-buffered;
  fits_at_10892 = refl;
  refused_at_10891 = (refl, refl);
  deadline_2927 = (refl, refl);
  all_repetitions = record { wire_time = refl; held = refl; refused = (refl, refl) };
}
