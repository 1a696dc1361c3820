-- The figures so far are those of the records so far.
use Rattle.std.proofs.Common.{Ok}
use Rattle.plan.specs.Figures.{Reads}
use Rattle.plan.proofs.Sheets.{front}
use Rattle.plan.proofs.figures.read_ports.Given as goal

abbrev pub invariant-loop-k : goal.invariant-loop-k
invariant-loop-k l = Reads (front l.sheet l.k) (Ok (record { count = l.k; ports = l.ports; longest = l.longest }))
