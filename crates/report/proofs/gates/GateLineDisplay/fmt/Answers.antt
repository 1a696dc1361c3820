-- The pieces of the line are written in order.
use Rattle.std.proofs.Common.{◌≡◌, ℕ, List, ◌++◌, length, get_or, drop, Some, codes, decimal, ◌∙◌, ap, append_assoc, rules}
use Rattle.std.proofs.Output.{displays_on_ok_of_eq}
use Rattle.std.specs.Fmt.{◌++?◌}
use Rattle.sheet.specs.Fields.{number}
use Rattle.report.specs.GateLists.{hex, record_line}
use Rattle.report.proofs.GateLists.{duration-is, printed-hex, hex-octets-five}
use Rattle.report.proofs.gates.GateLineDisplay.fmt.Goals as goal

pub returns-clause-writes : goal.returns-clause-writes
returns-clause-writes g c =
    let s : List ℕ = c.args.self.now.0 in
    let five : length s ≡ 5 = search rules in
    let duration = c.from_be_bytes-duration.ensures ∙ duration-is s five in
    let state = printed-hex c.in_radix.result.base _ c.laid_out.result (get_or s 0 0) (search rules) c.in_radix.ensures c.laid_out.ensures in
    let x0 = printed-hex c.in_radix-2.result.base _ c.laid_out-2.result (get_or s 0 0) (search rules) c.in_radix-2.ensures c.laid_out-2.ensures in
    let x1 = printed-hex c.in_radix-3.result.base _ c.laid_out-3.result (get_or s 1 0) (search rules) c.in_radix-3.ensures c.laid_out-3.ensures in
    let x2 = printed-hex c.in_radix-4.result.base _ c.laid_out-4.result (get_or s 2 0) (search rules) c.in_radix-4.ensures c.laid_out-4.ensures in
    let x3 = printed-hex c.in_radix-5.result.base _ c.laid_out-5.result (get_or s 3 0) (search rules) c.in_radix-5.ensures c.laid_out-5.ensures in
    let x4 = printed-hex c.in_radix-6.result.base _ c.laid_out-6.result (get_or s 4 0) (search rules) c.in_radix-6.ensures c.laid_out-6.ensures in
    let front = λ (t : List ℕ). Some (codes "  " ++ (hex (get_or s 0 0) ++ (codes " for " ++ t))) in
    let most : List ℕ = codes " ns: " ++ (hex (get_or s 0 0) ++ (codes " " ++ (hex (get_or s 1 0) ++ (codes " " ++ (hex (get_or s 2 0) ++ (codes " " ++ hex (get_or s 3 0))))))) in
    displays_on_ok_of_eq g.W.Write.write_str_gives c.args.f.now c.writeln.new.self c.writeln.result _ (Some (record_line s))
    ((λ i.
    (Some (codes "  ")
    ++? (state i
    ++? (Some (codes " for ")
    ++? (Some (decimal (duration i)) ++? (Some (codes " ns: ") ++? (x0 i ++? (Some (codes " ") ++? (x1 i ++? (Some (codes " ") ++? (x2 i ++? (Some (codes " ") ++? x3 i)))))))))))
    ++? (Some (codes " ") ++? (x4 i ++? Some (codes "\n"))))
    ∙ ap front (append_assoc (decimal (number (drop 1 s))) most (codes " " ++ (hex (get_or s 4 0) ++ codes "\n")))
    ∙ ap (λ (t : List ℕ). front (decimal (number (drop 1 s)) ++ (codes " ns:" ++ (t ++ codes "\n")))) (hex-octets-five s five))
    c.writeln.ensures.writes
