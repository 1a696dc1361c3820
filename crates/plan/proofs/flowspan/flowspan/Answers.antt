-- The greatest of the ends of the held flows.
use Rattle.std.proofs.Common.{rules, ◌∙◌}
use borrow.Author.Tests.{tests}
use Rattle.std.proofs.lemmas.Iterator.{YieldsList-from_slice, YieldsList-from_map}
use Rattle.std.proofs.lemmas.Iterator.Consumers.{YieldsList-from_filter, max_from_yields_List}
use Rattle.planning.specs.Setups.{network}
use Rattle.plan.specs.Setups.{setup}
use Rattle.plan.proofs.Totals.{is_held, held-tested, end, greatest-flowspan}
use Rattle.plan.proofs.flowspan.flowspan.Goals as goal

pub returns : goal.returns
returns c = record {
  value = λ m.
      let net = network m (setup c.args.setup.now) in
      let rows = c.args.rows.now in
      let greatest = max_from_yields_List _ _ c.max.ensures.ran
      (YieldsList-from_map _ (end net) (YieldsList-from_filter _ is_held (YieldsList-from_slice rows cc) (cc) (λ x b q k. (search (rules, tests), held-tested x.now b (λ is. search (rules, tests)) (λ is held. search (rules, tests))))) c.map.ensures.closure (λ x r q k. (search rules, search rules))) in
      c.unwrap_or.ensures ∙ greatest-flowspan net rows _ greatest;
}
