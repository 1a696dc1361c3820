-- Each turn adds the line of its answer.
use Rattle.std.proofs.Common.{ℕ, drop, get_or, ◌+◌, Ok, ap, rules}
use Rattle.std.proofs.Output.{has_written_of_eq}
use Rattle.std.specs.Result.{IsOk}
use Rattle.plan.specs.declared.call.Reply.TheVariants.{Done}
use Rattle.report.specs.Listings.{number_of, answer_line, answer_lines}
use Rattle.report.proofs.Listings.{lines_next}
use Rattle.report.proofs.Texts.{written_more}
use Rattle.report.proofs.text.AnswerLinesDisplay.fmt.Goals as goal

pub loop-index-preserved : goal.loop-index-preserved
loop-index-preserved g c plain =
    let took = g.W.Write.write_str_gives in
    let flows = c.args.self.now.flows.now in
    let told = c.args.self.now.answers.now in
    let i = c.loop-index.index in
    let answer = get_or told i (Ok Done) in
    let before = c.loop-index.invariant plain in
    let done : IsOk c.write.result = search rules in
    written_more took c.args.f.now (answer_lines flows 0 told) (answer_line (number_of flows i) answer) _ (answer_lines flows (i + 1) (drop (i + 1) told)) c.loop-index.f c.write.new.self
    (lines_next flows told (Ok Done) i c.loop-index-test.true) before
    (has_written_of_eq took c.loop-index.f _ _ c.write.new.self (ap (λ (n : ℕ). answer_line n answer) c.number_of.ensures.value) (c.write.ensures.writes before.1.plain done))
