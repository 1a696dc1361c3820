use Rattle.std.proofs.Common.{[], ◌++◌, string_bytes, unwrap_or, ◌∙◌, rules}
use Rattle.sheet.specs.Sheets.{read_at}
use Rattle.records.specs.Listings.{listing}
use Rattle.records.proofs.Listings.{appended_line, lines_more}
use Rattle.records.proofs.listed.add_records.Goals as goal

pub loop-index-preserved : goal.loop-index-preserved
loop-index-preserved g c =
    let z = g.K.RecordKind.SIZE in
    let reading = g.K.RecordKind.reading in
    let sheet = c.args.sheet.now in
    let before = string_bytes c.loop-index.lines in
    let whole = string_bytes c.args.lines.now ++ listing z reading (λ x. unwrap_or (g.K.Display.output x) []) sheet in
    let is = c.in-Ok.ensures.value ∙ (λ i. read_at z reading (c.new.ensures.index i) (c.new.ensures.sheet i)) in
    lines_more (λ x. unwrap_or (g.K.Display.output x) []) (λ k. read_at z reading k sheet) _ _ _ before _ whole c.loop-index-test.true is
    (search (rules, appended_line (g.K.Display.output c.in-Ok.record) before, c.requires.prints c.in-Ok.record)) c.loop-index.invariant
