-- Each refusal is the first whose condition holds.
use Rattle.std.proofs.Common.{sym, ap, ◌∙◌}
use Rattle.std.proofs.lemmas.Result.{err_from_is_err_and}
use Rattle.network.specs.Flows.{Flow}
use Rattle.network.specs.Overlap.{starting}
use Rattle.planning.specs.Offers.{placed}
use Rattle.plan.specs.Calls.{offered}
use Rattle.plan.specs.Rows.{flow, flows}
use Rattle.plan.specs.Timings.{network}
use Rattle.plan.proofs.Held.{held-found, room-left}
use Rattle.plan.proofs.Offering.{answer-held, answer-unfit, answer-placed, placed-fits}
use Rattle.plan.proofs.plan.Plan.place.Goals as goal

pub returns-then-is_some : goal.returns-then-is_some
returns-then-is_some g c =
    let plan = c.args.self.now in
    let x = offered c.args.offer.now.flow in
    let net = network (g.L.Line.meaning plan.line) c.args.setup.now in
    let named = held-found x.number plan.rows _ c.find.ensures.cases in
    record { placed = answer-held net g.L.Line.LARGEST (flows plan.rows) x (named ∙ (cc)) }

pub returns-in_err-row : goal.returns-in_err-row
returns-in_err-row g c =
    let plan = c.args.self.now in
    let x = offered c.args.offer.now.flow in
    let net = network (g.L.Line.meaning plan.line) c.args.setup.now in
    let p = err_from_is_err_and c.from_residual.result c.from_residual.ensures.1 in
    let free = c.in-Some.ensures.cases in
    rw (p.1, p.2) (record {
      placed = answer-unfit net g.L.Line.LARGEST (flows plan.rows) x (held-found x.number plan.rows _ c.find.ensures.cases ∙ (cc)) (room-left plan.rows _ plan.long free.0 free.1) c.in_err-row.ensures.made;
    })

pub returns-in_err-row-2 : goal.returns-in_err-row-2
returns-in_err-row-2 g c =
    let plan = c.args.self.now in
    let x = offered c.args.offer.now.flow in
    let net = network (g.L.Line.meaning plan.line) c.args.setup.now in
    let p = err_from_is_err_and c.from_residual-in_err-row-2.result c.from_residual-in_err-row-2.ensures.1 in
    let free = c.in-Some.ensures.cases in
    let made = c.in_ok-row.ensures.made in
    let done = answer-placed net g.L.Line.LARGEST (flows plan.rows) x (held-found x.number plan.rows _ c.find.ensures.cases ∙ (cc)) (room-left plan.rows _ plan.long free.0 free.1) made.passes in
    let at = ap (λ (f : Flow). placed (flows plan.rows) x.chosen f) made.flow in
    rw (p.1, p.2) (record { placed = done ∙ sym at ∙ sym c.in_err-row-2.ensures.value })

pub invariant_of-row-clause-below : goal.invariant_of-row-clause-below
invariant_of-row-clause-below g c =
    let made = c.in_ok-row.row in
    (placed-fits (flows c.args.self.now.rows) c.args.offer.now.flow.start (flow made) c.in_ok-row-2.field-0 (sym c.in_ok-row-2.ensures.value)).0

pub returns : goal.returns
returns g c =
    let plan = c.args.self.now in
    let x = offered c.args.offer.now.flow in
    let net = network (g.L.Line.meaning plan.line) c.args.setup.now in
    let row = c.in_ok-row.row in
    let s = c.in_ok-row-2.field-0 in
    let free = c.in-Some.ensures.cases in
    let made = c.in_ok-row.ensures.made in
    let fresh = (held-found x.number plan.rows _ c.find.ensures.cases ∙ (cc)) in
    let value = c.in_ok-row-2.ensures.value in
    let done = answer-placed net g.L.Line.LARGEST (flows plan.rows) x fresh (room-left plan.rows _ plan.long free.0 free.1) made.passes in
    let at = ap (λ (f : Flow). placed (flows plan.rows) x.chosen f) made.flow in
    let fitting = placed-fits (flows plan.rows) c.args.offer.now.flow.start (flow row) s (sym value) in
    record {
      placed = record {
        done = done ∙ sym at ∙ sym value;
        row = free.0;
        free = free.1;
        fresh = fresh;
        state = made.state;
        holds = ap (starting s) made.flow;
        clear = fitting.1;
      };
    }
