-- Each hop adds its step, and after the last one the route is timed.
use Rattle.std.proofs.Common.{get_or, ap, length, ℕ, List, arith}
use Rattle.plan.specs.Calls.{offered}
use Rattle.plan.specs.Timings.{network}
use Rattle.plan.proofs.Records.{route_few}
use Rattle.plan.proofs.Times.{so_far_more, so_far-all}
use Rattle.plan.proofs.judge.Network.timing.Goals as goal

pub loop-k-preserved : goal.loop-k-preserved
loop-k-preserved g c =
    let line = c.args.self.now.line.now in
    let x = offered c.args.offer.now.flow in
    let k = c.loop-k.k in
    let route = c.route-port-items.ensures.value in
    let short = g.met.L.Line.bounded line (get_or x.route k 0) x.length in
    let within = rw route at c.loop-k-test.true in
    let wire = rw route at c.wire_time-wire.ensures.value in
    rw route
    (so_far_more (g.L.Line.meaning line) c.args.self.now.setup.now x k c.loop-k.hops c.loop-k.offset c.loop-k.total c.wire_time-wire.result
    c.port-figures.result (route_few c.args.offer.now.limited) within (rw route at c.port-figures.ensures.value) c.port-figures.ensures.delay c.port-figures.ensures.processing
    wire (omega arith) c.loop-k.invariant)

pub returns : goal.returns
returns g c =
    let line = c.args.self.now.line.now in
    let x = offered c.args.offer.now.flow in
    let long = ap (λ (qs : List ℕ). length qs) c.route-port-items.ensures.value in
    record {
      times = so_far-all g.L.Line.LARGEST (network (g.L.Line.meaning line) c.args.self.now.setup.now) x c.loop-k.k c.loop-k.hops c.loop-k.offset c.loop-k.total
          (route_few c.args.offer.now.limited) (omega arith) (λ q. g.met.L.Line.timed line q x.length) c.loop-k.invariant;
    }
