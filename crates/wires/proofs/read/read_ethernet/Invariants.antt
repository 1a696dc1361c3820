-- The codes so far are the numbers of the words so far.
use Rattle.std.proofs.Common.{◌≡◌, length, vec_items}
use Rattle.wires.specs.Orders.{texts}
use Rattle.wires.proofs.Asked.{Sofar}
use Rattle.wires.proofs.read.read_ethernet.Given as goal

abbrev pub invariant-loop-word : goal.invariant-loop-word
invariant-loop-word l = (length (vec_items l.codes) ≡ l.word-index) × Sofar (texts l.rest) (vec_items l.codes)
