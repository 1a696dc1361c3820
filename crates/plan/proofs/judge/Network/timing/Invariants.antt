-- The hops so far are timed.
use Rattle.plan.specs.Calls.{offered}
use Rattle.plan.specs.Timings.{network}
use Rattle.plan.proofs.Times.{SoFar}
use Rattle.plan.proofs.judge.Network.timing.Given as goal

abbrev pub invariant-loop-k : goal.invariant-loop-k
invariant-loop-k g l = SoFar (network (g.L.Line.meaning l.self.line.now) l.self.setup.now) (offered l.offer.flow) l.k l.hops l.offset l.total
