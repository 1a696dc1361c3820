use Rattle.std.proofs.Common.{◌≡◌, length, Ok, Err, ap, ◌∙◌, arith, ltb-false, ltb-true}
use Rattle.std.proofs.lemmas.Result.{err_from_is_err_and}
use Rattle.sheet.specs.Fields.{Octets}
use Rattle.sheet.specs.GatesLemmas.{read-known, read-unknown}
use Rattle.sheet.proofs.gate.GateRecordRecordKind.read.Goals as goal

pub returns-in_default-try_from : goal.returns-in_default-try_from
returns-in_default-try_from c =
    let long : length c.args.octets.now ≡ 5 = omega (arith, ltb-false, ltb-true) in
    let octets : Octets c.args.octets.now = λ i. let fits = c.type_inv.octets i in omega arith in
    record {
      value = read-unknown c.args.index c.args.octets.now octets long c.from_be_bytes-word.result c.from_be_bytes-word.ensures c.if-word-ne0.false c.in_default-try_from.ensures.1;
    }

pub returns-in_err-judge : goal.returns-in_err-judge
returns-in_err-judge c =
    let fault = err_from_is_err_and c.from_residual.result c.from_residual.ensures.1 in
    let long : length c.args.octets.now ≡ 5 = omega (arith, ltb-false, ltb-true) in
    let octets : Octets c.args.octets.now = λ i. let fits = c.type_inv.octets i in omega arith in
    let is = read-known c.args.index c.args.octets.now octets long c.from_be_bytes-word.result c.from_be_bytes-word.ensures c.if-word-ne0.false
    c.in-Ok.state c.in-Ok.ensures (Err c.in_err-judge.field-0.0) c.in_err-judge.ensures.value in
    record { value = fault.1 ∙ ap Err fault.2 ∙ is }

pub returns : goal.returns
returns c =
    let long : length c.args.octets.now ≡ 5 = omega (arith, ltb-false, ltb-true) in
    let octets : Octets c.args.octets.now = λ i. let fits = c.type_inv.octets i in omega arith in
    record {
      value =
          read-known c.args.index c.args.octets.now octets long c.from_be_bytes-word.result c.from_be_bytes-word.ensures c.if-word-ne0.false
          c.in-Ok.state c.in-Ok.ensures (Ok tt) c.in_ok-judge.ensures.value;
    }
