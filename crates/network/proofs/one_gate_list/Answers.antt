use Rattle.network.proofs.GateLists.{one-gate_list}
use Rattle.network.proofs.one_gate_list.Goals as goal

pub returns : goal.returns
returns c = one-gate_list
