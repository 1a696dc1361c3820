-- The filled line means what its rate codes say.
use Rattle.std.proofs.Common.{◌≡◌, ℕ, true, List, Ok, Err, Result, ap, subst, arith}
use Rattle.std.specs.Result.{is_ok}
use Rattle.fault.specs.declared.kinds.PlanFault.{PlanFault}
use Rattle.line.specs.declared.ethernet.Ethernet.{Ethernet}
use Rattle.line.specs.contracts.ethernet.times.EthernetLine.TheImpl.{ghosts as ethernet_line}
use Rattle.line.specs.Fillings.{Coded, EthernetFilled}
use Rattle.line.proofs.Codes.{coded-is}
use Rattle.plan.specs.Calls.{Wires}
use Rattle.plan.specs.Models.{wires}
use Rattle.interface.specs.Performed.{Performs, came_to, returned_number}
use Rattle.interface.proofs.exports.perform_ethernet.Goals as goal

coded : (cs : List ℕ) (before : Ethernet) (r : Result (Unit {0}) PlanFault) (line : Ethernet) → true ≡ is_ok r → EthernetFilled cs before r line → Coded cs line
coded cs before (Ok _) line ok filled = filled.1
coded cs before (Err e) line ok filled = absurd (let z : ◌≡◌ {A = ℕ} 0 1 = cc in omega arith)

pub returns-clause-performs : goal.returns-clause-performs
returns-clause-performs c codes =
    let cs = c.args.codes.now in
    let line = c.fill.new.self in
    let means = coded-is cs line (coded cs c.new-line.result c.fill.result line c.in_ok-map_err.ensures.variant c.fill.ensures.filled) in
    subst (λ (w : Wires). Performs w c.args.calls.now c.args.answers.now c.args.buffer.now (came_to (returned_number c.performed.result) c.performed.new.answers c.performed.new.buffer))
    (ap (wires ethernet_line.LARGEST) means) c.performed.ensures.performs
