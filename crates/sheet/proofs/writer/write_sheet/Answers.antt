use Rattle.sheet.specs.RoundTrips.{Undone}
use Rattle.sheet.proofs.RoundTrips.{undone}
use Rattle.sheet.proofs.writer.write_sheet.Given as given
use Rattle.sheet.proofs.writer.write_sheet.Goals as goal

-- the laws of the kind give the promises
promised : (g : given.Over) → Undone g.K.RecordKind.SIZE g.K.RecordKind.reading g.K.RecordKind.judging g.K.RecordKind.written
promised g =
    undone g.K.RecordKind.SIZE g.K.RecordKind.reading g.K.RecordKind.judging g.K.RecordKind.written
    g.met.K.RecordKind.some g.met.K.RecordKind.whole g.met.K.RecordKind.readback g.met.K.RecordKind.writable g.met.K.RecordKind.rewritten

pub returns-in_err-judge_all-clause-undone : goal.returns-in_err-judge_all-clause-undone
returns-in_err-judge_all-clause-undone g c = promised g

pub returns-then-records-buffer-clause-undone : goal.returns-then-records-buffer-clause-undone
returns-then-records-buffer-clause-undone g c = promised g

pub returns-clause-undone : goal.returns-clause-undone
returns-clause-undone g c = promised g
