use Rattle.network.proofs.NoWait.{no_wait}
use Rattle.network.proofs.no_wait.Goals as goal

pub returns : goal.returns
returns c = no_wait
