-- The spans meet unless the answer is Clear.
use Rattle.std.proofs.Common.{◌≡◌, true, false, rules}
use Rattle.spans.specs.Overlap.{Shares}
use Rattle.spans.proofs.Alone.{shares-unless_clear}
use Rattle.spans.proofs.Formula.{shares_unique}
use Rattle.spans.proofs.span.Spans.share.Goals as goal

pub returns-clause-is : goal.returns-clause-is
returns-clause-is c =
    let one = c.args.self.now in
    let other = c.args.other.now in
    let only : c.ne.result ≡ true → Shares one other =
    λ meets. shares-unless_clear one other c.clearance.result c.clearance.ensures.clears
    (λ clear. let apart : c.ne.result ≡ false = search rules in absurd cc) in
    let all : Shares one other → c.ne.result ≡ true = search rules in
    shares_unique _ _ _ _ _ _ c.ne.result one.repeats other.repeats (only, all)

pub returns-clause-only : goal.returns-clause-only
returns-clause-only c t =
    shares-unless_clear c.args.self.now c.args.other.now c.clearance.result c.clearance.ensures.clears
    (λ clear. let apart : c.ne.result ≡ false = search rules in absurd (rw apart at t))
