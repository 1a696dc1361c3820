-- Every start that the row's answer skips is blocked by the row.
use Rattle.std.proofs.Common.{◌≡◌, ◌-◌, ◌<◌, true, rules, arith}
use borrow.Author.Tests.{tests}
use Rattle.plan.specs.declared.row.State.TheVariants.{Free}
use Rattle.plan.specs.Rows.{flow}
use Rattle.plan.proofs.Skipping.{blocks_moved}
use Rattle.plan.proofs.fit.Trial.past.Goals as goal

pub returns-then-at-self : goal.returns-then-at-self
returns-then-at-self c =
    let row = c.args.other.now in
    let busy : row.state ≡ Free → ⊥ = search (rules, tests) in
    let f = flow c.args.self.now.row.now in
    let s = c.args.self.now.start in
    let after = c.in-After.ensures.moves in
    let some = after.0 in
    record {
      skips = (
        omega arith,
        c.if-at-self.true,
        λ r more less. let m : r - s < c.in-After.n = omega arith in blocks_moved row f s r true busy more (after.1 (r - s) m),
        λ same. absurd (omega arith),
      );
    }

pub returns-else-at-self : goal.returns-else-at-self
returns-else-at-self c =
    let row = c.args.other.now in
    let busy : row.state ≡ Free → ⊥ = search (rules, tests) in
    let f = flow c.args.self.now.row.now in
    let s = c.args.self.now.start in
    let after = c.in-After.ensures.moves in
    let few = c.args.self.now.row.now.period_most in
    record {
      skips = λ r more less. let m : r - s < c.in-After.n = omega arith in blocks_moved row f s r true busy more (after.1 (r - s) m);
    }

pub returns-in-Never : goal.returns-in-Never
returns-in-Never c =
    let row = c.args.other.now in
    let busy : row.state ≡ Free → ⊥ = search (rules, tests) in
    let f = flow c.args.self.now.row.now in
    let s = c.args.self.now.start in
    record { skips = λ r more less. blocks_moved row f s r true busy more (c.in-Never.ensures.moves (r - s)) }
