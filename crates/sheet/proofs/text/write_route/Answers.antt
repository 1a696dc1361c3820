use Rattle.std.proofs.Common.{refl}
use Rattle.std.proofs.Output.{has_written_append, has_written_of_eq}
use Rattle.sheet.proofs.Texts.{route_text_more}
use Rattle.sheet.proofs.text.write_route.Goals as goal

pub loop-port-preserved : goal.loop-port-preserved
loop-port-preserved g c plain =
    let before = c.loop-port.invariant plain in
    let here = c.in_ok-write.ensures.writes before.plain refl in
    let more = route_text_more c.args.ports.now c.loop-port.port-index c.loop-port-test.true in
    has_written_of_eq g.W.Write.write_str_gives _ _ _ _ more (has_written_append g.W.Write.write_str_gives _ _ _ _ _ before here)
