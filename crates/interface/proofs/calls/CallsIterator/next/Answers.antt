-- A call takes an octet or more.
use Rattle.std.proofs.Common.{rules}
use Rattle.interface.proofs.Reading.{first_shorter}
use Rattle.interface.proofs.calls.CallsIterator.next.Goals as goal

pub returns-clause-goes : goal.returns-clause-goes
returns-clause-goes c =
    let fewer = first_shorter c.args.self.now.0.now _ c.in-Some.rest.now c.in-Some.ensures.value in
    search rules
