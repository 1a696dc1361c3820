-- The pieces of each sentence are written in order.
use Rattle.std.proofs.Common.{◌++◌, codes, decimal, subst}
use mathlib.Core.Path.{subst⁻¹}
use Rattle.std.specs.Fmt.{HasWritten}
use Rattle.fault.specs.Sentences.{sentence}
use Rattle.fault.specs.declared.refusal.Refusal.{Refusal}
use Rattle.wires.specs.Answers.{name, told}
use Rattle.wires.specs.declared.answer.Answer.{Answer}
use Rattle.wires.proofs.answer.AnswerDisplay.fmt.Goals as goal

pub returns-in-Refused-clause-writes : goal.returns-in-Refused-clause-writes
returns-in-Refused-clause-writes g c plain ok =
    let line = name c.in-Refused.kind in
    let why = sentence c.in-Refused.fault in
    subst⁻¹ (λ (a : Answer). HasWritten g.W.Write.write_str_gives c.args.f.now (told a) c.write-in-Refused.new.self)
    c.in-Refused.is
    (subst (λ (r : Refusal). HasWritten g.W.Write.write_str_gives c.args.f.now (line ++ (codes " line not filled, refused " ++ (decimal r.number ++ (codes ": " ++ why)))) c.write-in-Refused.new.self)
    c.refusal-number.ensures.value (c.write-in-Refused.ensures.writes plain ok))

pub returns-in-NotUnderstood-clause-writes : goal.returns-in-NotUnderstood-clause-writes
returns-in-NotUnderstood-clause-writes g c plain ok =
    subst⁻¹ (λ (a : Answer). HasWritten g.W.Write.write_str_gives c.args.f.now (told a) c.write-in-NotUnderstood.new.self)
    c.in-NotUnderstood.is (c.write-in-NotUnderstood.ensures.writes plain ok)
