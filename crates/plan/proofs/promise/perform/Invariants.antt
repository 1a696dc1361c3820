-- The calls so far have their answers, and the plan and the buffer are what is defined after them.
use Rattle.std.proofs.Common.{◌≡◌, ◌≤◌, length, take, vec_items, vec_len, vec_capacity}
use Rattle.plan.specs.Alike.{Alike}
use Rattle.plan.specs.Calls.{empty}
use Rattle.plan.specs.Models.{model, wires}
use Rattle.plan.specs.Steps.{after, replies, buffered}
use Rattle.plan.proofs.promise.perform.Given as goal

abbrev pub invariant-loop-call : goal.invariant-loop-call
invariant-loop-call g l =
    let w = wires g.L.Line.LARGEST (g.L.Line.meaning l.initial.plan.line) in
    (l.plan.line ≡ l.initial.plan.line)
    × Alike (model l.plan.setup l.plan.rows) (after w empty (take l.call-index l.calls))
    × (vec_items l.answers ≡ replies w empty (length l.initial.buffer) (take l.call-index l.calls))
    × (l.buffer ≡ buffered w empty l.initial.buffer (take l.call-index l.calls))
    × (vec_len l.answers ≡ l.call-index)
    × (length l.calls ≤ vec_capacity l.answers)
