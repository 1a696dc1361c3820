-- The set-up comes first, then one offer after another, and last the flowspan.
use Rattle.std.proofs.Common.{vec_items, arith, rules}
use Rattle.std.proofs.lemmas.Iterator.{YieldsList-from_range, YieldsList-from_map}
use Rattle.std.proofs.lemmas.Iterator.Adapters.{items_from_extend}
use Rattle.std.proofs.lemmas.Result.{IfOk-at_ok}
use Rattle.plan.specs.declared.call.Call.TheVariants.{Offer}
use Rattle.report.proofs.Inputs.{records_are, calls_are}
use Rattle.report.proofs.input.Input.calls.Goals as goal

pub returns : goal.returns
returns c =
    let x = c.args.self.now in
    let n = c.div_ceil-count.result in
    let put =
    IfOk-at_ok _ c.in_ok-extend.was
    (items_from_extend c.extend.result c.extend.ensures.ran (YieldsList-from_map _ (Offer x.flows) (YieldsList-from_range 0 n n c.map.ensures.source (omega arith)) c.map.ensures.closure (λ x r q k. search rules))) in
    record {
      made =
          calls_are x.cycle x.ports x.flows n (vec_items c.new-calls.result) (vec_items c.push.new.self) (vec_items c.extend.new.self) (vec_items c.push-2.new.self)
          c.new-calls.ensures.items c.in_ok-push.ensures.items put.0 c.in_ok-push-2.ensures.items
          (records_are x.flows.now n c.div_ceil-count.ensures);
    }
