-- The lines are answered one by one.
use Rattle.std.proofs.Common.{◌≡◌, ℕ, ◌+◌, [], string_bytes, refl, sym, ap, ◌∙◌, subst, append-nil, arith}
use Rattle.std.specs.Iterator.Adapters.{enumerate_source, enumerate_count}
use Rattle.std.specs.Str.Iter.{lines_rest}
use Rattle.wires.specs.Transcript.{Transcript}
use Rattle.wires.proofs.Lined.{Follows, follows_more}
use Rattle.wires.proofs.transcript.transcript.Goals as goal

pub loop-index-init : goal.loop-index-init
loop-index-init c ls more cut recorded =
    let into = c.into_iter-index-iterator.ensures.into_iter_gives in
    let whole = ap (λ i. lines_rest (enumerate_source i)) into ∙ ap lines_rest c.enumerate-index-items.ensures.source ∙ c.lines.ensures.rest in
    let first = ap enumerate_count into ∙ c.enumerate-index-items.ensures.count in
    rw c.new-text.ensures.bytes
    (record {
      start = c.new-lines.result;
      new_ethernet = c.new-lines.ensures.ethernet;
      new_cell = c.new-lines.ensures.cell;
      lines = ls;
      cut = rw whole at cut;
      recorded = rw first at recorded;
    })

pub loop-index-preserved : goal.loop-index-preserved
loop-index-preserved c =
    let steps = c.in-Some.ensures.steps in
    let input = c.args.input.now in
    let rest = lines_rest (enumerate_source c.loop-index.index-iterator) in
    let rest' = lines_rest (enumerate_source c.next.new.self) in
    let text = string_bytes c.loop-index.text in
    let longer = string_bytes c.note.new.text in
    let old = subst (λ (n : ℕ). Follows input rest (n + 1) c.loop-index.lines text) (sym steps.1) c.loop-index.invariant in
    let new = follows_more input rest rest' c.in-Some.line.now text longer (c.in-Some.index + 1) c.loop-index.lines c.note.new.lines old steps.0.0.0 steps.0.0.2 c.in_ok-note.ensures.noted in
    let next : c.in-Some.index + 1 ≡ enumerate_count c.next.new.self = omega (arith, steps) in
    subst (λ (n : ℕ). Follows input rest' (n + 1) c.note.new.lines longer) next new

pub returns : goal.returns
returns c =
    let none = c.in-None.ensures.steps.0.0.0 in
    record { recorded = subst (Transcript c.args.input.now) (append-nil (string_bytes c.loop-index.text)) (c.loop-index.invariant [] [] none refl) }
