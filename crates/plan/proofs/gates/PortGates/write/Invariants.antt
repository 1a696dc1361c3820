-- The octets written so far, those of the records to come and the octets behind are the buffer as it is to be.
use Rattle.std.proofs.Common.{◌≡◌, ◌+◌, ◌*◌, ◌++◌, length, drop}
use Rattle.plan.specs.GateLists.{list, left}
use Rattle.plan.specs.GateOctets.{gate_octets}
use Rattle.plan.proofs.Writing.{filled}
use Rattle.plan.proofs.gates.PortGates.write.Given as goal

abbrev pub invariant-loop-k : goal.invariant-loop-k
invariant-loop-k l =
    let n = 5 * length (list l.self) in
    let k = l.k-iterator.count in
    let rest = left l.k-iterator.iter in
    goal.iterator-loop-k.can_next l.k-iterator × goal.iterator-loop-k.is_finite l.k-iterator
    × (l.count ≡ length (list l.self)) × (k + length rest ≡ l.count)
    × (filled (5 * k) n (gate_octets rest) l.buffer ≡ gate_octets (list l.self) ++ drop n l.initial.buffer)
