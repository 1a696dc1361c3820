-- Looks are joined while the state stays the same.
use Rattle.std.proofs.Common.{◌≡◌, ℕ, ◌+◌, sym, ap, ◌∙◌, subst, add-zero, rules, arith}
use borrow.Author.Tests.{tests}
use Rattle.sheet.specs.Gates.{octet_of}
use Rattle.planning.specs.Gates.{state_by}
use Rattle.plan.specs.Rows.{flows}
use Rattle.plan.proofs.Staying.{lasts_more, stretch-first}
use Rattle.plan.proofs.Writing.{octet-state}
use Rattle.plan.proofs.gates.PortGates.stretch.Goals as goal

pub returns-then-ne-clause-first : goal.returns-then-ne-clause-first
returns-then-ne-clause-first c =
    let gates = c.args.self.now in
    let states = state_by gates.guard (flows gates.rows.now) gates.port in
    let y = c.args.place in
    let found = c.loop-found.found in
    let more = c.state_at-more in
    let inv = c.loop-found.invariant in
    let at = subst (λ (x : ℕ). states x ≡ octet_of more.result.state) (add-zero (y + found.duration)) (more.ensures.lasts 0 more.ensures.some) in
    let differ : ¬ (more.result.state ≡ found.state) = search (rules, tests) in
    stretch-first states gates.cycle y found.duration (octet_of found.state) inv.0 inv.1 inv.2 (λ _ same. differ (octet-state (sym at ∙ same)))

pub loop-found-preserved : goal.loop-found-preserved
loop-found-preserved c =
    let gates = c.args.self.now in
    let states = state_by gates.guard (flows gates.rows.now) gates.port in
    let found = c.loop-found.found in
    let more = c.state_at-more in
    let same : more.result.state ≡ found.state = search (rules, tests) in (
      omega arith,
      omega arith,
      lasts_more states c.args.place (octet_of found.state) found.duration more.result.duration (octet_of more.result.state)
          c.loop-found.invariant.2 more.ensures.lasts (ap octet_of same),
    )

pub returns-clause-first : goal.returns-clause-first
returns-clause-first c =
    let gates = c.args.self.now in
    let states = state_by gates.guard (flows gates.rows.now) gates.port in
    let found = c.loop-found.found in
    let inv = c.loop-found.invariant in
    stretch-first states gates.cycle c.args.place found.duration (octet_of found.state) inv.0 inv.1 inv.2 (λ less. absurd (omega arith))
