-- The lines so far and those of the records left are all of them.
use Rattle.std.proofs.Common.{drop}
use Rattle.std.specs.Fmt.{IsPlainFormatter}
use Rattle.std.specs.List.{flat_map}
use Rattle.report.specs.GateLists.{record_line}
use Rattle.report.proofs.Texts.{WrittenBut}
use Rattle.report.proofs.gates.GateLinesDisplay.fmt.Given as goal

abbrev pub invariant-loop-record : goal.invariant-loop-record
invariant-loop-record g l =
    IsPlainFormatter l.initial.f
    → WrittenBut g.W.Write.write_str_gives l.initial.f (flat_map record_line l.records) (flat_map record_line (drop l.record-index l.records)) l.f
