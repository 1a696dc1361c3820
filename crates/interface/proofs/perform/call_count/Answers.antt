-- Each turn counts one call, and there are no more calls than octets.
use Rattle.std.proofs.Common.{rules}
use Rattle.interface.proofs.Counting.{counts-turns, told-counted}
use Rattle.interface.proofs.perform.call_count.Goals as goal

pub try_fold-requires-clause-callable : goal.try_fold-requires-clause-callable
try_fold-requires-clause-callable c =
    record { at = λ rs t q r u gives folds next. let few = (counts-turns _ (λ q. q.1) (λ p r q is. (search rules, search rules)) _ _ rs t q gives folds).1 in search rules }

pub returns : goal.returns
returns c =
    let ran = c.try_fold.ensures.ran in
    let counts = counts-turns _ (λ q. q.1) (λ p r q is. (search rules, search rules)) _ _ ran.0 ran.4.0 (ran.2, ran.3) ran.4.1 ran.5 in
    record { value = told-counted c.try_fold.result ran.1 _ ran.3 c.args.octets.now ran.4.0.0.now _ counts.0 ran.4.2 (λ x stops. (stops.2.0, search rules, search rules)) ran.6 }
