use Rattle.std.proofs.Common.{ℕ}
use Rattle.spans.specs.Divisors.{Greatest}
use Rattle.spans.proofs.arithmetic.gcd.Given as goal

-- what is the greatest common divisor of the numbers in hand is that of the numbers given
abbrev pub invariant-loop-rest : goal.invariant-loop-rest
invariant-loop-rest l = (k : ℕ) → Greatest l.g l.rest k → Greatest l.m l.n k

abbrev pub decreases-loop-rest : goal.decreases-loop-rest
decreases-loop-rest l = l.rest
