-- One row more, held or free.
use Rattle.std.proofs.Common.{◌≡◌, min, max, ap, rules, arith}
use borrow.Author.Tests.{tests}
use Rattle.plan.specs.declared.gates.Look.{Look}
use Rattle.plan.specs.declared.row.State.TheVariants.{Held}
use Rattle.plan.specs.Looks.{left_at, next_at}
use Rattle.plan.specs.Rows.{flows}
use Rattle.plan.proofs.Looking.{of-flows-≤, rows-held, rows-free, rows_all}
use Rattle.plan.proofs.gates.PortGates.see.Goals as goal
use Rattle.plan.proofs.gates.PortGates.see.Goals.{then-eq, else-eq}

pub loop-row-init : goal.loop-row-init
loop-row-init c =
    let gates = c.args.self.now in
    let most = of-flows-≤ 0xffff_ffff (next_at c.args.place) gates.port (flows gates.rows.now) in
    omega arith

pub loop-row-preserved : goal.loop-row-preserved
loop-row-preserved c =
    let rows = c.args.self.now.rows.now in
    let y = c.args.place in
    let q = c.args.self.now.port in
    let k = c.loop-row.row-index in
    let row = c.row-item.result in
    elim c.if-eq.branch [
      | then-eq w ↦
          let busy : row.state ≡ Held = search (rules, tests) in
          let left = rows-held max 0 (left_at y) q rows k row c.loop-row-test.true c.row-item.is busy in
          let next = rows-held min 0xffff_ffff (next_at y) q rows k row c.loop-row-test.true c.row-item.is busy in
          let left_is = ap (λ (l : Look). l.left) w.seen-is in
          let next-is = ap (λ (l : Look). l.next) w.seen-is in
          omega arith
      | else-eq w ↦
          let idle : row.state ≡ Held → ⊥ = search (rules, tests) in
          let left = rows-free max 0 (left_at y) q rows k row c.loop-row-test.true c.row-item.is idle in
          let next = rows-free min 0xffff_ffff (next_at y) q rows k row c.loop-row-test.true c.row-item.is idle in
          let left_is = ap (λ (l : Look). l.left) w.seen-is in
          let next-is = ap (λ (l : Look). l.next) w.seen-is in
          omega arith
    ]

pub returns : goal.returns
returns c =
    let rows = c.args.self.now.rows.now in
    let y = c.args.place in
    let q = c.args.self.now.port in
    let left = rows_all max 0 (left_at y) q rows c.loop-row.row-index c.loop-row-test.false in
    let next = rows_all min 0xffff_ffff (next_at y) q rows c.loop-row.row-index c.loop-row-test.false in
    record { left = omega arith; next = omega arith }
