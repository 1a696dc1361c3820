use Rattle.std.proofs.Common.{None, rules}
use Rattle.std.specs.Prelude.{slice_index}
use Rattle.sheet.proofs.Arrays.{items-from_fn}
use Rattle.sheet.proofs.flow.FlowRecord.new.Goals as goal

pub returns : goal.returns
returns c =
    let x = c.args in
    let ports = items-from_fn _ _ (slice_index x.route.now) 8 (λ i y q h k. search rules) _ c.from_fn.ensures.items in
    record {
      value = λ i. record {
        number = x.number;
        length = x.length;
        period = x.period;
        deadline = x.deadline;
        start = None;
        hops = c.min.ensures i;
        ports = ports i;
      };
    }
