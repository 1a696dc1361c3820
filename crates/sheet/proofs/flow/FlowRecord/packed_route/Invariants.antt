-- The slots so far, packed.
use Rattle.std.proofs.Common.{◌≡◌, ◌*◌, ◌^◌, ◌<◌, take}
use Rattle.sheet.specs.Fields.{packed}
use Rattle.sheet.proofs.Routes.{fives}
use Rattle.sheet.proofs.flow.FlowRecord.packed_route.Given as goal

abbrev pub invariant-loop-port : goal.invariant-loop-port
invariant-loop-port l =
    (l.route ≡ packed (fives (take l.port-index l.self.ports))) × (l.route < 2 ^ (5 * l.port-index))
