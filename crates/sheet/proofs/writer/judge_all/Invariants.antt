-- The records so far may be written: what is left decides.
use Rattle.std.proofs.Common.{◌≡◌, drop}
use Rattle.sheet.specs.Sheets.{judge_from}
use Rattle.sheet.proofs.writer.judge_all.Given as goal

abbrev pub invariant-loop-index : goal.invariant-loop-index
invariant-loop-index g l =
    judge_from g.K.RecordKind.judging l.index (drop l.index l.records) ≡ judge_from g.K.RecordKind.judging 0 l.records
