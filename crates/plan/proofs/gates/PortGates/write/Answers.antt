-- One record more behind those written.
use Rattle.std.proofs.Common.{◌≡◌, ℕ, ◌*◌, length, ap, ◌∙◌, inl, arith}
use Rattle.sheet.specs.Gates.{written_gate}
use Rattle.network.specs.Gates.{Gate}
use Rattle.plan.specs.GateLists.{list, left}
use Rattle.plan.specs.GateOctets.{gate, gate_octets}
use Rattle.plan.proofs.Left.{left-first, length-left}
use Rattle.plan.proofs.Writing.{gate-judged, part-written, filled, gates_more}
use Rattle.plan.proofs.gates.PortGates.write.Goals as goal

pub count-count-requires-clause-fits : goal.count-count-requires-clause-fits
count-count-requires-clause-fits c = inl (let few = length-left c.records.result in omega arith)

pub overflow_mul-count : goal.overflow_mul-count
overflow_mul-count c =
    let few = length-left c.records.result in
    let bound = c.count-count.ensures.bound in
    omega arith

pub loop-k-preserved : goal.loop-k-preserved
loop-k-preserved c =
    let all = list c.args.self.now in
    let n = 5 * length all in
    let x = c.in-Some.record in
    let at = 5 * c.in-Some.k in
    let from = left c.loop-k.k-iterator.iter in
    let rest = left c.next.new.self.iter in
    let buffer = c.loop-k.buffer in
    let long : length buffer ≡ length c.args.buffer.now = c.loop-k.auto.buffer in
    let (first, index, next, short) = c.in-Some.ensures.steps in
    let inv = c.loop-k.invariant in
    let fewer = ap (length {A = Gate}) first in
    let (least, most) = left-first c.loop-k.k-iterator.iter (gate x) rest first in
    let written = part-written (written_gate x) buffer c.write.new.buffer at _ c.write.result (omega arith)
    (gate-judged x least most) c.write.ensures.value c.write.ensures.after in (
      c.in-Some.ensures.goes.keeps,
      tt,
      inv.2,
      omega arith,
      gates_more at (5 * c.next.new.self.count) n x rest from buffer _ (omega arith) (omega arith) (omega arith) first written
          ∙ ap (λ (m : ℕ). filled (5 * m) n (gate_octets from) buffer) index
          ∙ inv.4,
    )
