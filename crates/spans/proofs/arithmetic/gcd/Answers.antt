use Rattle.std.proofs.Common.{ℕ, sym, subst}
use Rattle.spans.specs.Divisors.{Greatest}
use Rattle.spans.proofs.Euclid.{greatest-none, greatest_up, greatest-zero}
use Rattle.spans.proofs.Formula.{gcd_unique}
use Rattle.spans.proofs.arithmetic.gcd.Goals as goal

pub loop-rest-preserved : goal.loop-rest-preserved
loop-rest-preserved c = λ k low. c.loop-rest.invariant k (greatest_up c.loop-rest.g c.loop-rest.rest k low)

pub returns : goal.returns
returns c =
    let g : ℕ = c.loop-rest.g in
    let last : Greatest g c.loop-rest.rest g =
    subst (λ (z : ℕ). Greatest g z g) (sym c.loop-rest-test.false) (greatest-zero g) in
    let great = c.loop-rest.invariant g last in
    record { greatest = great; is = gcd_unique c.args.m c.args.n g great; zero = greatest-none c.args.m c.args.n g great }
