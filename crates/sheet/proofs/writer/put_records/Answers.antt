use Rattle.std.proofs.Common.{◌+◌}
use Rattle.sheet.proofs.Judgments.{judged-at}
use Rattle.sheet.proofs.Placed.{place_more}
use Rattle.sheet.proofs.writer.put_records.Goals as goal

pub put_record-requires-clause-judged : goal.put_record-requires-clause-judged
put_record-requires-clause-judged g c =
    let item = c.index-records-index.result in
    let judged = judged-at g.K.RecordKind.judging c.args.records.now 0 c.loop-index.index item c.index-records-index.is c.loop-index-test.true c.requires.judged in
    let read = g.met.K.RecordKind.readback item (0 + c.loop-index.index) 0 judged in
    g.met.K.RecordKind.writable item 0 0 (g.K.RecordKind.written item) read

pub loop-index-preserved : goal.loop-index-preserved
loop-index-preserved g c =
    place_more g.K.RecordKind.SIZE g.K.RecordKind.written g.met.K.RecordKind.whole c.args.records.now c.loop-index.index c.index-records-index.result
    c.loop-index.buffer c.args.buffer.now c.put_record.new.buffer c.index-records-index.is c.loop-index-test.true c.loop-index.invariant c.put_record.ensures.after
