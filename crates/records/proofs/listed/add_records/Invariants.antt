-- The lines so far and those still to come are the lines that were there and the whole listing.
use Rattle.std.proofs.Common.{◌≡◌, ◌-◌, ◌++◌, [], string_bytes, unwrap_or}
use Rattle.sheet.specs.Sheets.{read_at, record_count}
use Rattle.records.specs.Listings.{leftover, lines_from, listing}
use Rattle.records.proofs.listed.add_records.Given as goal

abbrev pub invariant-loop-index : goal.invariant-loop-index
invariant-loop-index g l =
    string_bytes l.lines
    ++ lines_from (λ x. unwrap_or (g.K.Display.output x) []) (λ k. read_at g.K.RecordKind.SIZE g.K.RecordKind.reading k l.sheet) (leftover (record_count g.K.RecordKind.SIZE l.sheet)) (l.count - l.index) l.index
    ≡ string_bytes l.initial.lines ++ listing g.K.RecordKind.SIZE g.K.RecordKind.reading (λ x. unwrap_or (g.K.Display.output x) []) l.sheet
