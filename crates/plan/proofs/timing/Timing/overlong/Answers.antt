-- The first hop whose wire time is above the period is the first overlong one.
use Rattle.std.proofs.Common.{length, take, sym, ◌∙◌}
use Rattle.plan.proofs.Routes.{overlong-position}
use Rattle.plan.proofs.timing.Timing.overlong.Goals as goal

pub returns-in_err-k : goal.returns-in_err-k
returns-in_err-k c =
    rw (← c.route-route.ensures.value)
    (record { value = c.from_residual.ensures ∙ c.in_err-k.ensures.value ∙ sym (overlong-position c.args.offer.now.flow.period (take (length c.route-route.result.now) c.args.self.now.hops)) })

pub returns : goal.returns
returns c =
    rw (← c.route-route.ensures.value)
    (record { value = c.in_ok-k.ensures.value ∙ sym (overlong-position c.args.offer.now.flow.period (take (length c.route-route.result.now) c.args.self.now.hops)) })
