use Rattle.spans.proofs.Cover.{since_decides}
use Rattle.spans.proofs.span.Spans.since.Goals as goal

pub returns : goal.returns
returns c =
    record {
      is = c.distance.ensures.is;
      below = c.distance.ensures.below;
      cover = since_decides _ _ _ _ c.args.self.now.repeats c.distance.ensures.is;
    }
