-- Four and eight octets are the numbers that they make.
use Rattle.std.proofs.Common.{rules, length, ap, ◌∙◌, sym, arith, length-take}
use Rattle.interface.proofs.Reading.{number_4, number_8, number_of-cut}
use Rattle.interface.proofs.read.read_call.Goals as goal

pub returns-in_ok-ports-in-1 : goal.returns-in_ok-ports-in-1
returns-in_ok-ports-in-1 c =
    let cut = c.in_ok-cycle-in-1.ensures.cases in
    let front = c.in_ok-cycle-in-1.cycle.now in
    let number = number_of-cut 4 c.in_ok-kind.rest.now front c.in_ok-cycle-in-1.rest.now cut.0 cut.1 (omega arith) in
    let long = ap length cut.0 ∙ length-take 4 c.in_ok-kind.rest.now in
    let value = c.from_be_bytes-cycle.ensures ∙ sym (number_4 front (omega arith)) in
    search rules

pub returns-in_ok-flows-in-2 : goal.returns-in_ok-flows-in-2
returns-in_ok-flows-in-2 c =
    let cut = c.in_ok-index-in-2.ensures.cases in
    let front = c.in_ok-index-in-2.index.now in
    let number = number_of-cut 8 c.in_ok-kind.rest.now front c.in_ok-index-in-2.rest.now cut.0 cut.1 (omega arith) in
    let long = ap length cut.0 ∙ length-take 8 c.in_ok-kind.rest.now in
    let value = c.from_be_bytes-index.ensures ∙ sym (number_8 front (omega arith)) in
    search rules
