-- The lines so far and those still to come are all of them.
use Rattle.std.proofs.Common.{drop}
use Rattle.std.specs.Fmt.{IsPlainFormatter}
use Rattle.report.specs.Listings.{answer_lines}
use Rattle.report.proofs.Texts.{WrittenBut}
use Rattle.report.proofs.text.AnswerLinesDisplay.fmt.Given as goal

abbrev pub invariant-loop-index : goal.invariant-loop-index
invariant-loop-index g l =
    IsPlainFormatter l.initial.f
    → WrittenBut g.W.Write.write_str_gives l.initial.f (answer_lines l.self.flows.now 0 l.self.answers.now)
    (answer_lines l.self.flows.now l.index (drop l.index l.self.answers.now)) l.f
