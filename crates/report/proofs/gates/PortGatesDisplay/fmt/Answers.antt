-- The list stands at the front of the buffer.
use Rattle.std.proofs.Common.{◌*◌, take, replicate, codes, decimal, ◌++◌, refl, ap, ◌∙◌, rules}
use Rattle.std.proofs.Output.{has_written_of_eq}
use Rattle.plan.specs.Models.{model}
use Rattle.report.specs.GateLists.{record_lines}
use Rattle.report.specs.Lines.{wired}
use Rattle.report.proofs.GateLists.{length_of_fives, port_text-is}
use Rattle.report.proofs.gates.PortGatesDisplay.fmt.Goals as goal

pub returns-in-Ok-clause-writes : goal.returns-in-Ok-clause-writes
returns-in-Ok-clause-writes g c plain ok =
    let plan = c.args.self.now.plan.now in
    let w = wired plan.line in
    let port = c.args.self.now.port in
    let count = c.in-Ok.count in
    let after = c.gate_list.new.buffer in
    let told = c.in-Ok.ensures in
    has_written_of_eq g.W.Write.write_str_gives c.args.f.now _ _ c.write.new.self
    (ap (λ n. codes "port " ++ (decimal port ++ (codes ": " ++ (decimal count ++ (codes " gate records\n" ++ record_lines (take (5 * count) after) n 0))))) (length_of_fives count after (search rules))
    ∙ port_text-is w (model plan.setup plan.rows) port count (replicate 15365 0) after refl told.value told.after)
    (c.write.ensures.writes plain ok)
