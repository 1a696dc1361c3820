-- The records so far stand at the front, and the octets behind them are as they were.
use Rattle.std.proofs.Common.{◌≡◌, ◌*◌, ◌++◌, take, drop}
use Rattle.sheet.specs.Sheets.{written_sheet}
use Rattle.sheet.proofs.writer.put_records.Given as goal

abbrev pub invariant-loop-index : goal.invariant-loop-index
invariant-loop-index g l =
    l.buffer ≡ written_sheet g.K.RecordKind.written (take l.index l.records) ++ drop (l.index * g.K.RecordKind.SIZE) l.initial.buffer
