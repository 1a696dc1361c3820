-- The first hop that the test finds is the first misrouted one.
use Rattle.std.proofs.Common.{length, sym, ap, ◌∙◌, ℕ, List, arith}
use Rattle.std.specs.List.{enumerate_from}
use Rattle.std.proofs.lemmas.List.FromFn.{length-enumerate_from}
use Rattle.std.proofs.lemmas.List.Quantifiers.{position-Some}
use Rattle.plan.proofs.Records.{route_few}
use Rattle.plan.proofs.Routes.{bad_hop, misrouted-position}
use Rattle.plan.proofs.offer.Offer.misrouted.Goals as goal

pub returns-in_err-k : goal.returns-in_err-k
returns-in_err-k c =
    rw (← c.route.ensures.value)
    (record { value = c.from_residual.ensures ∙ c.in_err-k.ensures.value ∙ sym (misrouted-position c.args.ports c.route.result.now) })

pub overflow_cast-result : goal.overflow_cast-result
overflow_cast-result c =
    let route = c.route.result.now in
    let few = route_few c.args.self.now.limited in
    let same = ap (λ (qs : List ℕ). length qs) c.route.ensures.value in
    let long = length-enumerate_from 0 route in
    let within = (position-Some (bad_hop c.args.ports route) (enumerate_from 0 route) c.in_ok-k.k (0, 0) (sym c.in_ok-k.ensures.value)).0 in
    omega arith

pub returns : goal.returns
returns c =
    rw (← c.route.ensures.value)
    (record { value = c.in_ok-k.ensures.value ∙ sym (misrouted-position c.args.ports c.route.result.now) })
