-- Each turn adds the line of its record.
use Rattle.std.proofs.Common.{length, drop, get_or, ◌+◌, ◌/◌, [], sym, ap, ◌∙◌, rules}
use Rattle.std.proofs.Output.{has_written_of_eq}
use Rattle.std.proofs.lemmas.List.{at_drop_more, at_drop_all}
use Rattle.std.specs.List.{flat_map}
use Rattle.std.specs.Simd.{first_chunks}
use Rattle.std.specs.Result.{IsOk}
use Rattle.report.specs.GateLists.{record_line}
use Rattle.report.proofs.GateLists.{record-lines_chunks}
use Rattle.report.proofs.Texts.{written_more, written_whole}
use Rattle.report.proofs.gates.GateLinesDisplay.fmt.Goals as goal

pub loop-record-preserved : goal.loop-record-preserved
loop-record-preserved g c plain =
    let took = g.W.Write.write_str_gives in
    let records = c.as_chunks.result.0.now in
    let i = c.loop-record.record-index in
    let before = c.loop-record.invariant plain in
    let done : IsOk c.write.result = search rules in
    written_more took c.args.f.now (flat_map record_line records) (record_line (get_or records i [])) _ (flat_map record_line (drop (i + 1) records)) c.loop-record.f c.write.new.self
    (at_drop_more (flat_map record_line) records i [] c.loop-record-test.true) before (c.write.ensures.writes before.1.plain done)

pub returns-clause-writes : goal.returns-clause-writes
returns-clause-writes g c plain ok =
    let took = g.W.Write.write_str_gives in
    let s = c.args.self.now.0.now in
    let records = c.as_chunks.result.0.now in
    let i = c.loop-record.record-index in
    has_written_of_eq took c.args.f.now (flat_map record_line records) _ c.loop-record.f (ap (flat_map record_line) {y = first_chunks 5 (length s / 5) s} c.as_chunks.ensures.front ∙ sym (record-lines_chunks s (length s / 5) 0))
    (written_whole took c.args.f.now (flat_map record_line records) _ c.loop-record.f (at_drop_all (flat_map record_line) records i c.loop-record-test.false) (c.loop-record.invariant plain))
