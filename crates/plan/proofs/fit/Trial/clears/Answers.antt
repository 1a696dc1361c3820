-- The first pair of hops that clashes tells how far, and if none does the flow is clear.
use Rattle.std.proofs.Common.{◌≡◌, ℕ, ◌+◌, Bool, false, List, map, get_or, sym, ◌∙◌, subst, arith, below_more}
use Rattle.network.specs.Flows as network
use Rattle.network.specs.Overlap.{starting}
use Rattle.planning.specs.Lists.{any}
use Rattle.planning.specs.Overlaps.{meets}
use Rattle.plan.specs.declared.row.Hop.{Hop}
use Rattle.plan.specs.declared.row.Row.{Row}
use Rattle.plan.specs.Moves.{Moves}
use Rattle.plan.specs.Rows.{flow, hop, blank}
use Rattle.plan.proofs.Any.{any_true, any_false}
use Rattle.plan.proofs.Moving.{moves-same, moves_wider, clash-meets}
use Rattle.plan.proofs.fit.Trial.clears.Goals as goal

-- a hop of the row that is tried, from start s on, shares an instant with a hop of the held one, or with any of several
abbrev meet : Row → Row → ℕ → network.Hop → network.Hop → Bool
meet tried row s h i = meets (starting s (flow tried)) h (flow row) i

abbrev meet-any : Row → Row → ℕ → List network.Hop → network.Hop → Bool
meet-any tried row s is h = any (meet tried row s h) is

pub returns-in_default : goal.returns-in_default
returns-in_default c =
    let tried = c.args.self.now.row.now in
    let row = c.args.held.now in
    let s = c.args.self.now.start in
    let at = hop (get_or c.route-at-items.result.now c.loop-at.at-index blank) in
    let held = hop (get_or c.route-other-items.result.now c.loop-other.other-index blank) in
    let made = c.spans-moving.ensures in
    let differ = c.in_default.not-Clear in
    let one : Moves (λ m. meet tried row (s + m) at held) c.clears_hop.result =
    moves-same _ _ _ (clash-meets c.spans-moving.result s (flow tried) at (flow row) held made.first made.period made.wire) c.clears_hop.ensures.moves in
    let this : Moves (λ m. meet-any tried row (s + m) (flow row).hops at) c.clears_hop.result =
    subst (λ (hs : List Hop). Moves (λ (m : ℕ). meet-any tried row (s + m) (map hop hs) at) c.clears_hop.result) c.route-other-items.ensures.hops
    (moves_wider _ _ _ (λ m. any_true (meet tried row (s + m) at) hop blank c.route-other-items.result.now c.loop-other.other-index c.loop-other-test.true) differ one) in
    record {
      moves = subst (λ (hs : List Hop). Moves (λ (m : ℕ). any (meet-any tried row (s + m) (flow row).hops) (map hop hs)) c.clears_hop.result) c.route-at-items.ensures.hops
          (moves_wider _ _ _ (λ m. any_true (meet-any tried row (s + m) (flow row).hops) hop blank c.route-at-items.result.now c.loop-at.at-index c.loop-at-test.true) differ this);
    }

pub loop-other-preserved : goal.loop-other-preserved
loop-other-preserved c =
    let at = hop (get_or c.route-at-items.result.now c.loop-at.at-index blank) in
    let held = hop (get_or c.route-other-items.result.now c.loop-other.other-index blank) in
    let made = c.spans-moving.ensures in
    let clear = clash-meets c.spans-moving.result c.args.self.now.start (flow c.args.self.now.row.now) at (flow c.args.held.now) held made.first made.period made.wire 0 in
    below_more _ _ c.loop-other.invariant (sym clear ∙ c.in-Clear.ensures.moves)

pub loop-at-preserved : goal.loop-at-preserved
loop-at-preserved c =
    let tried = c.args.self.now.row.now in
    let row = c.args.held.now in
    let at = hop (get_or c.route-at-items.result.now c.loop-at.at-index blank) in
    below_more _ _ c.loop-at.invariant
    (subst (λ (hs : List Hop). meet-any tried row (c.args.self.now.start + 0) (map hop hs) at ≡ false) c.route-other-items.ensures.hops
    (any_false (meet tried row (c.args.self.now.start + 0) at) hop blank c.route-other-items.result.now (λ k below. c.loop-other.invariant k (omega arith))))

pub returns : goal.returns
returns c =
    let tried = c.args.self.now.row.now in
    let row = c.args.held.now in
    record {
      moves = subst (λ (hs : List Hop). any (meet-any tried row (c.args.self.now.start + 0) (flow row).hops) (map hop hs) ≡ false) c.route-at-items.ensures.hops
          (any_false (meet-any tried row (c.args.self.now.start + 0) (flow row).hops) hop blank c.route-at-items.result.now (λ k below. c.loop-at.invariant k (omega arith)));
    }
