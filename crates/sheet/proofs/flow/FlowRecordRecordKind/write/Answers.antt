use Rattle.sheet.specs.FlowsLemmas.{fits, writable-from-judged}
use Rattle.sheet.proofs.flow.FlowRecordRecordKind.write.Goals as goal

pub to_octets-requires : goal.to_octets-requires
to_octets-requires c =
    let f = fits c.args.self.now (writable-from-judged 0 c.args.self.now c.in_ok-may_write.ensures.judged).clean in
    record { head = f.head; route = f.route }
