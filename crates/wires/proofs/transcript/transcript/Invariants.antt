-- The rest of the input follows what is told so far.
use Rattle.std.proofs.Common.{◌+◌, string_bytes}
use Rattle.std.specs.Iterator.Adapters.{enumerate_source, enumerate_count}
use Rattle.std.specs.Str.Iter.{lines_rest}
use Rattle.wires.proofs.Lined.{Follows}
use Rattle.wires.proofs.transcript.transcript.Given as goal

abbrev pub invariant-loop-index : goal.invariant-loop-index
invariant-loop-index l =
    Follows l.input (lines_rest (enumerate_source l.index-iterator)) (enumerate_count l.index-iterator + 1) l.lines (string_bytes l.text)
