-- The laws of the trait, put together.
use Rattle.line.proofs.Rules.{rules-from}
use Rattle.line.proofs.line.keeps_the_rules.Goals as goal

pub returns : goal.returns
returns g c =
    let x = c.args.line.now in
    let met = g.met.L.Line in
    record {
      rules = rules-from g.L.Line.LARGEST (g.L.Line.meaning x) met.least met.greatest (met.some x) (met.few x)
          (met.absent x) (met.short x) (met.long x) (met.timed x) (met.bounded x) (met.longer x);
    }
