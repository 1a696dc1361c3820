use Rattle.network.proofs.OverlapWaits.{overlap-waits}
use Rattle.network.proofs.overlap_waits.Goals as goal

pub returns : goal.returns
returns c = overlap-waits
