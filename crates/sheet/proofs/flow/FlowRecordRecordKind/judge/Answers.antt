use Rattle.std.proofs.Common.{sym, ◌∙◌}
use Rattle.sheet.specs.Limits.{judged}
use Rattle.sheet.specs.FlowsLemmas.{eight-slots}
use Rattle.sheet.proofs.flow.FlowRecordRecordKind.judge.Goals as goal

pub returns : goal.returns
returns c =
    record {
      value =
          c.judge.ensures.value
          ∙ (λ i. judged c.args.index (c.zeros.ensures.value i) (c.limits.ensures.value i))
          ∙ sym (eight-slots c.args.index c.args.self.now.ports _ c.zeros.ensures.slots);
    }
