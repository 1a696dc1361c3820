-- Each part lies where the number of ports says.
use Rattle.std.proofs.Common.{◌≡◌, ℕ, ◌+◌, ◌*◌, ◌≤◌, List, length, get_or, take, drop, ap, subst, ◌∙◌, rules}
use Rattle.std.proofs.lemmas.Result.{err_from_is_err_and}
use Rattle.line.specs.Fillings.{Codes, Coded}
use Rattle.report.specs.Inputs.{head}
use Rattle.report.proofs.Inputs.{cycle_taken, codes-are, ports_are, flows_are, head-le}
use Rattle.report.proofs.Runs.{input-line_refused, input-line_filled}
use Rattle.report.proofs.input.InputTryFromRefSliceU8.try_from.Goals as goal

pub returns-in_err-fill : goal.returns-in_err-fill
returns-in_err-fill c =
    let s : List ℕ = c.args.octets.now in
    let begin : c.in_ok-begin.begin.now ≡ take 5 s = search rules in
    let rest : c.in_ok-begin.rest.now ≡ drop 5 s = search rules in
    let codes : c.in_ok-codes.codes.now ≡ take (get_or c.in_ok-begin.begin.now 4 0) c.in_ok-begin.rest.now = search rules in
    let long : head s ≤ length s = head-le s _ _ begin rest (search rules) (search rules) (search rules) in
    let refused = input-line_refused s long (subst (λ (cs : List ℕ). Codes cs → ⊥) (codes ∙ codes-are s _ _ begin rest) c.in_err-fill.ensures.filled.0) in
    let p = err_from_is_err_and c.from_residual-in_err-fill.result c.from_residual-in_err-fill.ensures.1 in
    rw (p.1, p.2, c.in_err-fill.ensures.filled.1) refused

pub returns : goal.returns
returns c =
    let s : List ℕ = c.args.octets.now in
    let begin : c.in_ok-begin.begin.now ≡ take 5 s = search rules in
    let rest : c.in_ok-begin.rest.now ≡ drop 5 s = search rules in
    let codes : c.in_ok-codes.codes.now ≡ take (get_or c.in_ok-begin.begin.now 4 0) c.in_ok-begin.rest.now = search rules in
    let ports : c.in_ok-ports.ports.now ≡ take (8 * get_or c.in_ok-begin.begin.now 4 0) (drop (get_or c.in_ok-begin.begin.now 4 0) c.in_ok-begin.rest.now) = search rules in
    let flows : c.in_ok-ports.flows.now ≡ drop (8 * get_or c.in_ok-begin.begin.now 4 0) (drop (get_or c.in_ok-begin.begin.now 4 0) c.in_ok-begin.rest.now) = search rules in
    let some : 5 ≤ length s = search rules in
    let long : head s ≤ length s = head-le s _ _ begin rest some (search rules) (search rules) in
    let same = codes ∙ codes-are s _ _ begin rest in
    let filled = c.in_ok-fill.ensures.filled in
    record {
      cycle = c.from_be_bytes-cycle.ensures ∙ ap (λ (t : List ℕ). get_or t 0 0 * 16777216 + get_or t 1 0 * 65536 + get_or t 2 0 * 256 + get_or t 3 0) begin ∙ cycle_taken s some;
      line = input-line_filled s long c.fill.new.self (subst Codes same filled.0) (subst (λ (cs : List ℕ). Coded cs c.fill.new.self) same filled.1);
      ports = ports ∙ ports_are s _ _ begin rest;
      flows = flows ∙ flows_are s _ _ begin rest;
    }
