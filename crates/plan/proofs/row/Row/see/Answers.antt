-- One hop more.
use Rattle.std.proofs.Common.{min, max, List, map, ap, arith}
use Rattle.plan.specs.declared.row.Hop.{Hop}
use Rattle.plan.specs.Looks.{left_at, next_at, of_hops}
use Rattle.plan.specs.Rows.{flow, hop}
use Rattle.plan.proofs.Looking.{of-hops-≤, hops_more, hops-all}
use Rattle.plan.proofs.row.Row.see.Goals as goal

pub loop-at-init : goal.loop-at-init
loop-at-init c =
    let most = of-hops-≤ 0xffff_ffff (next_at c.args.place (flow c.args.self.now)) c.args.port (map hop c.route-at-items.result.now) in
    omega arith

pub loop-at-preserved : goal.loop-at-preserved
loop-at-preserved c =
    let row = c.args.self.now in
    let y = c.args.place in
    let q = c.args.port in
    let k = c.loop-at.at-index in
    let left = hops_more max 0 (left_at y (flow row)) q c.route-at-items.result.now k c.loop-at-test.true in
    let next = hops_more min 0xffff_ffff (next_at y (flow row)) q c.route-at-items.result.now k c.loop-at-test.true in
    omega arith

pub returns : goal.returns
returns c =
    let row = c.args.self.now in
    let y = c.args.place in
    let q = c.args.port in
    let k = c.loop-at.at-index in
    let left = hops-all max 0 (left_at y (flow row)) q c.route-at-items.result.now k c.loop-at-test.false in
    let next = hops-all min 0xffff_ffff (next_at y (flow row)) q c.route-at-items.result.now k c.loop-at-test.false in
    let all-left = ap (λ (hs : List Hop). of_hops max 0 (left_at y (flow row)) q (map hop hs)) c.route-at-items.ensures.hops in
    let all-next = ap (λ (hs : List Hop). of_hops min 0xffff_ffff (next_at y (flow row)) q (map hop hs)) c.route-at-items.ensures.hops in
    record { left = omega arith; next = omega arith }
