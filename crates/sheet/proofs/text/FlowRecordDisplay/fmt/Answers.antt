use Rattle.std.proofs.Common.{ℕ, List, ◌++◌, refl, ap, ◌∙◌}
use Rattle.std.proofs.Output.{has_written_append, has_written_of_eq}
use Rattle.sheet.specs.Texts.{route_text}
use Rattle.sheet.proofs.Texts.{before_route, flow_text-parts}
use Rattle.sheet.proofs.text.FlowRecordDisplay.fmt.Goals as goal

pub returns-clause-writes : goal.returns-clause-writes
returns-clause-writes g c plain ok =
    let first = c.in_ok-write.ensures.writes plain refl in
    let second = c.write_route.ensures.prints first.plain ok in
    let text = ap (λ (qs : List ℕ). before_route c.args.self.now ++ route_text qs) c.route.ensures.value ∙ flow_text-parts c.args.self.now in
    has_written_of_eq g.W.Write.write_str_gives _ _ _ _ text (has_written_append g.W.Write.write_str_gives _ _ _ _ _ first second)
