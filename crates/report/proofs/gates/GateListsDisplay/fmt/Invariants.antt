-- The texts so far and those of the ports left are the whole.
use Rattle.std.proofs.Common.{◌-◌}
use Rattle.std.specs.Fmt.{IsPlainFormatter}
use Rattle.plan.specs.Models.{model}
use Rattle.report.specs.GateLists.{port_texts}
use Rattle.report.specs.Lines.{wired}
use Rattle.report.proofs.Texts.{WrittenBut}
use Rattle.report.proofs.gates.GateListsDisplay.fmt.Given as goal

abbrev pub invariant-loop-port : goal.invariant-loop-port
invariant-loop-port g l =
    let w = wired l.self.plan.now.line in
    let m = model l.self.plan.now.setup l.self.plan.now.rows in
    IsPlainFormatter l.initial.f
    → WrittenBut g.W.Write.write_str_gives l.initial.f (port_texts w m l.self.ports 0) (port_texts w m (l.self.ports - l.port) l.port) l.f
