-- A refusal is passed on, and a done offer has its row in a free one.
use Rattle.std.proofs.Common.{ℕ, ◌<◌, List, ◌∷◌, get_or, set, sym, ap, ◌∙◌, subst, ap₂, arith, length-set}
use Rattle.std.proofs.lemmas.Bool.{false≢true}
use Rattle.sheet.specs.Flows.{read_flow}
use Rattle.sheet.specs.Sheets.{read_at}
use Rattle.network.specs.Flows.{Flow}
use Rattle.network.specs.Overlap.{Overlap}
use Rattle.network.proofs.OverlapDecided.{overlap-sym}
use Rattle.planning.specs.Lists.{Same}
use Rattle.planning.proofs.Overlaps.{decides-fits}
use Rattle.plan.specs.Models.{model, setup, wires}
use Rattle.plan.specs.Offers.{Limited}
use Rattle.plan.specs.Plans.{Namesakes}
use Rattle.plan.specs.Rows.{flow, flows, none}
use Rattle.plan.specs.Setups as stored
use Rattle.plan.proofs.Asked.{never_both}
use Rattle.plan.proofs.Held.{held-some, flows-at, each-flow, flows-added}
use Rattle.plan.proofs.Offering.{added_read}
use Rattle.plan.proofs.Records.{read_at_ok, flow_limited}
use Rattle.plan.proofs.Two.{two-added}
use Rattle.plan.proofs.plan.Plan.offer.Goals as goal

pub invariant_of-offer : goal.invariant_of-offer
invariant_of-offer g c = record { limited = read_at_ok Limited 21 read_flow flow_limited c.new.result.index _ c.in_ok-read.field-0 (sym c.in_ok-read.ensures.value) }

pub invariant_of-self : goal.invariant_of-self
invariant_of-self g c =
    let plan = c.args.self.now in
    let rows = plan.rows in
    let k = c.in_ok-k.k in
    let new = c.in_ok-k.row in
    let placed = c.in_ok-k.ensures.placed in
    let long = plan.long in
    let row = placed.row in
    let below : k < 64 = omega arith in
    let number = ap (λ (f : Flow). f.number) placed.holds in
    let repeat = each-flow (λ f. 0 < f.period) rows (λ j within. (get_or rows j none).period_least) in
    let clear = (decides-fits (flows rows) repeat (flow new) new.period_least).0 placed.clear in
    record {
      long = length-set rows k new ∙ long;
      numbers = λ two. plan.numbers (two-added Namesakes rows k new long below
          (λ j within busy same. false≢true (sym placed.fresh ∙ held-some _ rows j (omega arith) (busy, sym same ∙ number)))
          (λ j within busy same. false≢true (sym placed.fresh ∙ held-some _ rows j (omega arith) (busy, same ∙ number))) two);
      apart = λ two. plan.apart (two-added Overlap rows k new long below
          (λ j within busy overlap. let at = flows-at rows j (omega arith) busy in clear at.0 _ at.1 overlap)
          (λ j within busy overlap. let at = flows-at rows j (omega arith) busy in clear at.0 _ at.1 (overlap-sym overlap)) two);
      waiting = λ unset. never_both c.in_ok-set_up_with.ensures.set_up unset;
    }

pub returns-clause-after : goal.returns-clause-after
returns-clause-after g c =
    let plan = c.args.self.now in
    let placed = c.in_ok-k.ensures.placed in
    let w = wires g.L.Line.LARGEST (g.L.Line.meaning plan.line) in
    let m = model plan.setup plan.rows in
    let sheet = c.args.flows.now in
    let x = c.in_ok-read.field-0 in
    let read = sym (c.in_ok-read.ensures.value ∙ ap₂ (λ (i : ℕ) (s : List ℕ). read_at 21 read_flow i s) c.new.ensures.index c.new.ensures.sheet) in
    let ready = ap setup c.in_ok-set_up_with.ensures.set_up in
    let config = stored.setup c.in_ok-set_up_with.field-0.now in
    let s = c.in_ok-k.row.start in
    let rows = set plan.rows c.in_ok-k.k c.in_ok-k.row in
    subst (λ (fs : List Flow). Same (flows rows) fs) (sym (added_read w m sheet c.args.index x config read ready s))
    (subst (λ (f : Flow). Same (flows rows) (f ∷ flows plan.rows)) placed.holds (flows-added plan.rows c.in_ok-k.k c.in_ok-k.row placed.row placed.free placed.state))
