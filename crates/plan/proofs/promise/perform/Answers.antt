-- Call by call the answers, the plan and the buffer are the defined ones, and what a plan holds is assured.
use Rattle.std.proofs.Common.{ℕ, [], length, get_or, take, vec_items, refl, ap, ◌∙◌, subst, arith}
use Rattle.std.proofs.lemmas.List.{get_or_default}
use Rattle.line.proofs.Rules.{rules-from}
use Rattle.plan.specs.declared.call.Call.TheVariants.{SetUp}
use Rattle.plan.specs.Alike.{Alike}
use Rattle.plan.specs.Calls.{Model, Wires, empty}
use Rattle.plan.specs.Models.{model, setup, wires}
use Rattle.plan.specs.Steps.{after, next, reply, replies, written, buffered}
use Rattle.plan.proofs.Assured.{always-assured, lists_always_fit}
use Rattle.plan.proofs.Called.{same_of}
use Rattle.plan.proofs.CallsInOrder.{step-performed, after-all, replies-all, buffered-all}
use Rattle.plan.proofs.promise.perform.Goals as goal

pub returns-in_default : goal.returns-in_default
returns-in_default g c =
    let x = c.args.line in
    let met = g.met.L.Line in
    let w = wires g.L.Line.LARGEST (g.L.Line.meaning x) in
    let rules = rules-from w.most w.meaning met.least met.greatest (met.some x) (met.few x) (met.absent x) (met.short x) (met.long x) (met.timed x) (met.bounded x) (met.longer x) in
    record { answers = tt; line = refl; holds = tt; buffer = refl; assured = always-assured w rules c.args.calls.now; lists = lists_always_fit w rules c.args.calls.now }

pub loop-call-init : goal.loop-call-init
loop-call-init g c =
    let made = c.new-plan.ensures in
    let room = c.in-Ok.ensures in
    (refl, record { setup = ap setup made.setup; held = same_of made.held }, room.items, refl, room.len, room.capacity)

pub loop-call-preserved : goal.loop-call-preserved
loop-call-preserved g c =
    let x = c.new-plan.result.line in
    let met = g.met.L.Line in
    let w = wires g.L.Line.LARGEST (g.L.Line.meaning x) in
    let rules = rules-from w.most w.meaning met.least met.greatest (met.some x) (met.few x) (met.absent x) (met.short x) (met.long x) (met.timed x) (met.bounded x) (met.longer x) in
    let cs = c.args.calls.now in
    let i = c.loop-call.call-index in
    let below = c.loop-call-test.true in
    let call = get_or cs i (SetUp 0 (record { ref_ptr = (0, 0); now = [] })) in
    let plan = c.loop-call.plan in
    let m = model plan.setup plan.rows in
    let inv = c.loop-call.invariant in
    let same = ap (λ (y : g.row.L.Denot). wires g.L.Line.LARGEST (g.L.Line.meaning y)) inv.0 in
    let does = c.call.ensures in
    let replied = does.value ∙ ap (λ (v : Wires). reply v m (length c.loop-call.buffer) call) same ∙ ap (λ (n : ℕ). reply w m n call) c.loop-call.auto.buffer in
    let wrote = does.buffer ∙ ap (λ (v : Wires). written v m c.loop-call.buffer call) same in
    let left = subst (λ (v : Wires). Alike (model c.call.new.self.setup c.call.new.self.rows) (next v m call)) same does.after in
    let step = step-performed w rules cs i call below (get_or_default cs i _ call below) (length c.args.buffer.now) c.args.buffer.now m (vec_items c.loop-call.answers) c.loop-call.buffer
    inv.1 inv.2 inv.3 (model c.call.new.self.setup c.call.new.self.rows) c.call.result c.call.new.buffer left replied wrote in
    let pushed = c.push_reserved.ensures in
    let long = inv.4 in
    let room = inv.5 in
    (does.line ∙ inv.0, step.0, pushed.items ∙ step.1, step.2, omega arith, omega arith)

pub returns : goal.returns
returns g c =
    let x = c.args.line in
    let met = g.met.L.Line in
    let w = wires g.L.Line.LARGEST (g.L.Line.meaning x) in
    let cs = c.args.calls.now in
    let i = c.loop-call.call-index in
    let over = c.loop-call-test.false in
    let inv = c.loop-call.invariant in
    let made = c.new-plan.ensures.line in
    let w' = ap (λ (y : g.row.L.Denot). wires g.L.Line.LARGEST (g.L.Line.meaning y)) made in
    let rules = rules-from w.most w.meaning met.least met.greatest (met.some x) (met.few x) (met.absent x) (met.short x) (met.long x) (met.timed x) (met.bounded x) (met.longer x) in
    let m = model c.loop-call.plan.setup c.loop-call.plan.rows in
    record {
      answers = inv.2 ∙ ap (λ (v : Wires). replies v empty (length c.args.buffer.now) (take i cs)) w' ∙ replies-all cs i over w empty (length c.args.buffer.now);
      line = inv.0 ∙ made;
      holds = subst (λ (n : Model). Alike m n) (ap (λ (v : Wires). after v empty (take i cs)) w' ∙ after-all cs i over w empty) inv.1;
      buffer = inv.3 ∙ ap (λ (v : Wires). buffered v empty c.args.buffer.now (take i cs)) w' ∙ buffered-all cs i over w empty c.args.buffer.now;
      assured = always-assured w rules cs;
      lists = lists_always_fit w rules cs;
    }
