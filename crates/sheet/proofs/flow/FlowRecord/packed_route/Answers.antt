use Rattle.std.proofs.Common.{◌≡◌, ◌<◌, length, arith, rules}
use Rattle.sheet.proofs.Routes.{fives_more, port-lt, slot_more}
use Rattle.sheet.proofs.flow.FlowRecord.packed_route.Goals as goal

pub loop-port-preserved : goal.loop-port-preserved
loop-port-preserved c =
    let narrow = port-lt c.args.self.now.ports c.loop-port.port-index c.requires.fits c.loop-port-test.true in
    let is = c.from.ensures in
    let top : c.from.result < 32 = omega arith in
    let long : length c.args.self.now.ports ≡ 8 = search rules in
    let within : c.loop-port.port-index < length c.args.self.now.ports = omega arith in
    let more = fives_more c.args.self.now.ports c.loop-port.port-index within in
    (omega arith, slot_more c.loop-port.port-index c.loop-port.route c.from.result c.loop-port.invariant.1 top)
