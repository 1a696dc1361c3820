use Rattle.planning.proofs.Promise.{promised}
use Rattle.planning.proofs.promised.Goals as goal

pub returns : goal.returns
returns c = promised
