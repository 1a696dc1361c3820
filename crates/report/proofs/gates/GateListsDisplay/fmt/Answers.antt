-- Each turn adds the text of its port.
use Rattle.std.proofs.Common.{◌+◌, ◌-◌, rules}
use Rattle.std.specs.Result.{IsOk}
use Rattle.plan.specs.Models.{model}
use Rattle.report.specs.GateLists.{port_text, port_texts}
use Rattle.report.specs.Lines.{wired}
use Rattle.report.proofs.GateLists.{port-texts-next}
use Rattle.report.proofs.Texts.{written_more}
use Rattle.report.proofs.gates.GateListsDisplay.fmt.Goals as goal

pub loop-port-preserved : goal.loop-port-preserved
loop-port-preserved g c plain =
    let plan = c.args.self.now.plan.now in
    let w = wired plan.line in
    let m = model plan.setup plan.rows in
    let n = c.args.self.now.ports in
    let q = c.loop-port.port in
    let before = c.loop-port.invariant plain in
    let done : IsOk c.write.result = search rules in
    written_more g.W.Write.write_str_gives c.args.f.now (port_texts w m n 0) (port_text w m q) _ (port_texts w m (n - (q + 1)) (q + 1)) c.loop-port.f c.write.new.self
    (port-texts-next w m n q c.loop-port-test.true) before (c.write.ensures.writes before.1.plain done)
