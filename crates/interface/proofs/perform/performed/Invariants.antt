-- The calls so far have their answers, and the plan and the buffer are what is defined after them.
use Rattle.std.proofs.Common.{◌≡◌}
use Rattle.std.specs.Iterator.Adapters.{enumerate_source, enumerate_count}
use Rattle.plan.specs.Models.{model, wires}
use Rattle.interface.specs.Spoken.{calls_of}
use Rattle.interface.proofs.Outcomes.{listed}
use Rattle.interface.proofs.Performing.{Going}
use Rattle.interface.proofs.perform.performed.Given as goal

abbrev pub invariant-loop-index : goal.invariant-loop-index
invariant-loop-index g l =
    let w = wires g.L.Line.LARGEST (g.L.Line.meaning l.initial.plan.line) in
    (l.plan.line ≡ l.initial.plan.line)
    × Going w (listed (calls_of l.calls)) l.initial.answers l.initial.buffer (enumerate_count l.index-iterator) (enumerate_source l.index-iterator).0.now (model l.plan.setup l.plan.rows) l.answers l.buffer
