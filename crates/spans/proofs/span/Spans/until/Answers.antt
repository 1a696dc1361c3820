use Rattle.spans.proofs.Cover.{until_decides}
use Rattle.spans.proofs.span.Spans.until.Goals as goal

pub returns : goal.returns
returns c =
    record {
      is = c.distance.ensures.is;
      below = c.distance.ensures.below;
      guard = until_decides _ _ _ _ c.args.self.now.repeats c.distance.ensures.is;
    }
