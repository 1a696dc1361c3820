-- On the same port the clash is that of the two spans.
use Rattle.std.proofs.Common.{sym}
use Rattle.plan.specs.Rows.{flow}
use Rattle.plan.proofs.Moving.{clears_moves, moves-same, moved-clash}
use Rattle.plan.proofs.row.Row.clears_hop.Goals as goal

pub returns : goal.returns
returns c =
    let one = c.args.moving.now in
    let held = c.spans.result in
    let made = c.spans.ensures in
    record {
      moves = moves-same _ _ _
          (moved-clash one held c.args.port (flow c.args.self.now) _ (sym c.if-at-port.false) made.first made.period made.wire)
          (clears_moves one held _ c.clearance.ensures.clears);
    }
