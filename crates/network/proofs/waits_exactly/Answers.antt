use Rattle.network.proofs.WaitsExactly.{waits_exactly_where_flows_overlap}
use Rattle.network.proofs.waits_exactly.Goals as goal

pub returns : goal.returns
returns c = waits_exactly_where_flows_overlap
