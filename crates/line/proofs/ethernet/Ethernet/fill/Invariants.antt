-- The rates of the ports so far are those of their codes.
use Rattle.std.proofs.Common.{◌≡◌, ℕ, ◌<◌, length, get_or}
use Rattle.line.specs.Times.{code}
use Rattle.line.specs.declared.ethernet.Rate.TheVariants.{Mb10}
use Rattle.line.proofs.ethernet.Ethernet.fill.Given as goal

abbrev pub invariant-loop-port : goal.invariant-loop-port
invariant-loop-port l = (length l.rates ≡ 32) × ((q : ℕ) → q < l.port → code (get_or l.rates q Mb10) ≡ get_or l.codes q 0)
