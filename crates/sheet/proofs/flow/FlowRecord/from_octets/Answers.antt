use Rattle.std.proofs.Common.{◌≡◌, ℕ, List, ◌+◌, ◌*◌, length, ap, ◌∙◌, rules, arith}
use Rattle.std.specs.Prelude.{◌==◌}
use Rattle.std.specs.Bool.{then_some}
use Rattle.sheet.specs.Fields.{field}
use Rattle.sheet.proofs.Arrays.{items-from_fn}
use Rattle.sheet.proofs.flow.FlowRecord.from_octets.Goals as goal

pub returns : goal.returns
returns c =
    let s : List ℕ = c.args.octets.now in
    let long : length s ≡ 21 = omega arith in
    let sized : (b n : ℕ) → field (length s) b n s ≡ field 21 b n s = λ b n. ap (λ (z : ℕ). field z b n s) long in
    let ports = items-from_fn _ _ (λ i. field 21 (125 + 5 * i) 5 s) 8 (λ i y q h k. search rules) _ c.from_fn.ensures.items in
    let chosen = c.field-chosen.ensures.value ∙ sized 90 1 in
    let value = c.field-5.ensures.value ∙ sized 91 30 in
    record {
      value =
          λ i.
          record {
            number = (c.field.ensures.value ∙ sized 0 16) i;
            length = (c.field-2.ensures.value ∙ sized 16 14) i;
            period = (c.field-3.ensures.value ∙ sized 30 30) i;
            deadline = (c.field-4.ensures.value ∙ sized 60 30) i;
            start = (c.then_some.ensures ∙ (λ j. then_some (chosen j == 1) (value j))) i;
            hops = (c.field-6.ensures.value ∙ sized 121 4) i;
            ports = ports i;
          };
    }
