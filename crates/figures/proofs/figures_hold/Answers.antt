use Rattle.figures.proofs.Figures.{worked_figures}
use Rattle.figures.proofs.figures_hold.Goals as goal

pub returns : goal.returns
returns c = record { figures = worked_figures }
