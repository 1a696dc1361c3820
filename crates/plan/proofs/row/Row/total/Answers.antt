-- The last hop tells the total time.
use Rattle.std.proofs.Common.{◌-◌, List, map, length, ap, arith}
use Rattle.network.specs.Flows.{total}
use Rattle.planning.specs.Setups.{network}
use Rattle.plan.specs.declared.row.Hop.{Hop}
use Rattle.plan.specs.Rows.{hop}
use Rattle.plan.specs.Setups.{setup}
use Rattle.plan.proofs.Totals.{total-last}
use Rattle.plan.proofs.row.Row.total.Goals as goal

pub returns-in-Some-clause-value : goal.returns-in-Some-clause-value
returns-in-Some-clause-value c = λ m.
    let net = network m (setup c.args.setup.now) in
    let hops = c.route.result.now in
    let item = c.in-Some.ensures.item in
    let whole = ap (λ (hs : List Hop). total net (map hop hs)) c.route.ensures.hops in
    let delay = c.delay.ensures.value in
    let last = total-last net hops (length hops - 1) c.in-Some.last.now (let some = item.3.0 in omega arith) item.1 in
    omega arith
