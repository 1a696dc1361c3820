-- An offer that fails no check passes.
use Rattle.std.proofs.Common.{arith}
use Rattle.plan.specs.Calls.{offered}
use Rattle.plan.specs.Timings.{network}
use Rattle.plan.proofs.Judging.{passes}
use Rattle.plan.proofs.Records.{route_few}
use Rattle.plan.proofs.judge.Network.judge.Goals as goal

pub returns : goal.returns
returns g c =
    let line = c.args.self.now.line.now in
    record {
      judged = passes g.L.Line.LARGEST (network (g.L.Line.meaning line) c.args.self.now.setup.now) (offered c.args.offer.now.flow) c.ports.result c.timing-timing.result
          c.ports.ensures.value c.timing-timing.ensures.times (route_few c.args.offer.now.limited)
          c.if-not-regular.ensures.value c.in_default.ensures.value (omega arith) c.in_default-overlong.ensures.value (omega arith);
    }
