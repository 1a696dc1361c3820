use Rattle.std.proofs.Common.{ltb→lt, lt→ltb}
use Rattle.spans.proofs.span.Spans.covers.Goals as goal

pub returns : goal.returns
returns c =
    record {
      only = λ t C whole in-cycle. c.since.ensures.cover.all C _ whole in-cycle (ltb→lt _ _ t);
      all = λ C whole in-cycle cover. lt→ltb _ _ (c.since.ensures.cover.only C _ whole in-cycle cover);
    }
