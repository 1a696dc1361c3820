use Rattle.network.proofs.RunsExist.{runs_exist}
use Rattle.network.proofs.runs_exist.Goals as goal

pub returns : goal.returns
returns c = runs_exist
