use Rattle.std.proofs.Common.{◌+◌, ◌/◌, sym, arith}
use Rattle.spans.proofs.Circle.{ahead_unique}
use Rattle.spans.proofs.arithmetic.distance.Goals as goal

pub returns-then-a-b : goal.returns-then-a-b
returns-then-a-b c =
    record {
      is =
          sym
          (ahead_unique c.args.g c.args.x c.args.y _
          (record { i = c.args.y / c.args.g; j = c.args.x / c.args.g; meet = omega arith })
          (omega arith));
      below = omega arith;
    }

pub returns-else-a-b : goal.returns-else-a-b
returns-else-a-b c =
    record {
      is =
          sym
          (ahead_unique c.args.g c.args.x c.args.y _
          (record { i = c.args.y / c.args.g + 1; j = c.args.x / c.args.g; meet = omega arith })
          (omega arith));
      below = omega arith;
    }
