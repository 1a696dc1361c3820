use Rattle.std.proofs.Common.{◌+◌, ◌-◌, arith}
use Rattle.spans.specs.declared.span.overlap.Clearance.TheVariants.{Clear, After, Never}
use Rattle.spans.proofs.Alone.{answer}
use Rattle.spans.proofs.Sharing.{pair_of, share_always, share-never, share-before-near, share-after-near, share-before_far, share-after_far}
use Rattle.spans.proofs.span.Spans.clearance.Goals as goal
use Rattle.spans.proofs.span.Spans.clearance.Goals.{then-self-eq0-via-then-self-eq0, then-self-eq0-via-else-self-eq0+then-other-eq0}

pub returns-then-self-eq0 : goal.returns-then-self-eq0
returns-then-self-eq0 c =
    answer c.args.self.now c.args.other.now Clear
    (λ share.
    let one = share.one in
    let other = share.other in
    elim c.then-self-eq0.branch [
      | then-self-eq0-via-then-self-eq0 w ↦ omega arith
      | then-self-eq0-via-else-self-eq0+then-other-eq0 w ↦ omega arith
    ])

pub returns-then-from : goal.returns-then-from
returns-then-from c =
    let pair =
    pair_of c.args.self.now c.args.other.now c.gcd-g.result c.distance-r.result (omega arith)
    (omega arith)
    c.gcd-g.ensures.greatest
    c.distance-r.ensures.is
    c.distance-r.ensures.below in
    answer c.args.self.now c.args.other.now Never (share_always _ _ _ _ _ _ _ _ pair (omega arith))

pub returns-then-r-other : goal.returns-then-r-other
returns-then-r-other c =
    let pair =
    pair_of c.args.self.now c.args.other.now c.gcd-g.result c.distance-r.result (omega arith)
    (omega arith)
    c.gcd-g.ensures.greatest
    c.distance-r.ensures.is
    c.distance-r.ensures.below in
    answer c.args.self.now c.args.other.now (After (c.args.other.now.wire - c.distance-r.result)) (
      omega arith,
      share-before-near _ _ _ _ _ _ _ _ pair,
      share-after-near _ _ _ _ _ _ _ _ pair (omega arith) (omega arith),
    )

pub returns-then-g-r : goal.returns-then-g-r
returns-then-g-r c =
    let pair =
    pair_of c.args.self.now c.args.other.now c.gcd-g.result c.distance-r.result (omega arith)
    (omega arith)
    c.gcd-g.ensures.greatest
    c.distance-r.ensures.is
    c.distance-r.ensures.below in
    answer c.args.self.now c.args.other.now
    (After (c.gcd-g.result - c.distance-r.result + c.args.other.now.wire)) (
      omega arith,
      λ m. share-before_far _ _ _ _ _ _ _ _ pair m (omega arith),
      share-after_far _ _ _ _ _ _ _ _ pair (omega arith),
    )

pub returns-else-g-r : goal.returns-else-g-r
returns-else-g-r c =
    let pair =
    pair_of c.args.self.now c.args.other.now c.gcd-g.result c.distance-r.result (omega arith)
    (omega arith)
    c.gcd-g.ensures.greatest
    c.distance-r.ensures.is
    c.distance-r.ensures.below in
    answer c.args.self.now c.args.other.now Clear
    (share-never _ _ _ _ _ _ _ _ pair (omega arith) (omega arith))
