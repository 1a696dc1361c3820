-- Each call answers and leaves what is defined for it.
use Rattle.std.proofs.Common.{rules, ◌≡◌, refl, ap, ◌∙◌}
use Rattle.plan.specs.declared.call.Reply.TheVariants.{Done, Start, Span, Records}
use Rattle.plan.specs.Models.{wires}
use Rattle.plan.specs.Steps.{told}
use Rattle.plan.proofs.Called.{alike_of, told_forgot, set_up_called, rows_offered, rows_withdrawn}
use Rattle.plan.proofs.plan.Plan.call.Goals as goal

pub returns-in-SetUp-clause-value : goal.returns-in-SetUp-clause-value
returns-in-SetUp-clause-value g c =
    let mapped : c.map.result ≡ told (λ _. Done) c.set_up.result = search rules in
    rw c.in-SetUp.is (mapped ∙ ap (told (λ _. Done)) c.set_up.ensures.value ∙ told_forgot _)

pub returns-in-SetUp-clause-after : goal.returns-in-SetUp-clause-after
returns-in-SetUp-clause-after g c =
    let plan = c.args.self.now in
    let does = c.set_up.ensures in
    rw c.in-SetUp.is (set_up_called (wires g.L.Line.LARGEST (g.L.Line.meaning plan.line)) plan.setup _ plan.rows _ c.in-SetUp.cycle c.in-SetUp.ports does.rows does.after)

pub returns-in-Offer-clause-value : goal.returns-in-Offer-clause-value
returns-in-Offer-clause-value g c =
    let mapped : c.map-in-Offer.result ≡ told Start c.offer.result = search rules in
    rw c.in-Offer.is (mapped ∙ ap (told Start) c.offer.ensures.value)

pub returns-in-Offer-clause-after : goal.returns-in-Offer-clause-after
returns-in-Offer-clause-after g c =
    let plan = c.args.self.now in
    let does = c.offer.ensures in
    rw c.in-Offer.is (rows_offered (wires g.L.Line.LARGEST (g.L.Line.meaning plan.line)) plan.setup _ plan.rows c.offer.new.self.rows c.in-Offer.flows c.in-Offer.index _ does.value does.setup does.after)

pub returns-in-Withdraw-clause-value : goal.returns-in-Withdraw-clause-value
returns-in-Withdraw-clause-value g c =
    let mapped : c.map-in-Withdraw.result ≡ told (λ _. Done) c.withdraw.result = search rules in
    rw c.in-Withdraw.is (mapped ∙ ap (told (λ _. Done)) c.withdraw.ensures.value)

pub returns-in-Withdraw-clause-after : goal.returns-in-Withdraw-clause-after
returns-in-Withdraw-clause-after g c =
    let plan = c.args.self.now in
    let does = c.withdraw.ensures in
    rw c.in-Withdraw.is (rows_withdrawn (wires g.L.Line.LARGEST (g.L.Line.meaning plan.line)) plan.setup _ plan.rows c.withdraw.new.self.rows c.in-Withdraw.number _ does.value does.setup does.after)

pub returns-in-StartOf-clause-value : goal.returns-in-StartOf-clause-value
returns-in-StartOf-clause-value g c =
    let mapped : c.map-in-StartOf.result ≡ told Start c.start_of.result = search rules in
    rw c.in-StartOf.is (mapped ∙ ap (told Start) c.start_of.ensures.value)

pub returns-in-StartOf-clause-after : goal.returns-in-StartOf-clause-after
returns-in-StartOf-clause-after g c = rw c.in-StartOf.is (alike_of refl)

pub returns-in-Flowspan-clause-value : goal.returns-in-Flowspan-clause-value
returns-in-Flowspan-clause-value g c =
    let mapped : c.map-in-Flowspan.result ≡ told Span c.flowspan.result = search rules in
    rw c.in-Flowspan.is (mapped ∙ ap (told Span) c.flowspan.ensures.value)

pub returns-in-Flowspan-clause-after : goal.returns-in-Flowspan-clause-after
returns-in-Flowspan-clause-after g c = rw c.in-Flowspan.is (alike_of refl)

pub returns-in-GateList-clause-value : goal.returns-in-GateList-clause-value
returns-in-GateList-clause-value g c =
    let mapped : c.map-in-GateList.result ≡ told Records c.gate_list.result = search rules in
    rw c.in-GateList.is (mapped ∙ ap (told Records) c.gate_list.ensures.value)

pub returns-in-GateList-clause-after : goal.returns-in-GateList-clause-after
returns-in-GateList-clause-after g c = rw c.in-GateList.is (alike_of refl)
