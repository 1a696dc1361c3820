use Rattle.std.proofs.Common.{◌+◌, ◌*◌, ◌/◌, ◌<◌, ◌≤◌, length, arith}
use Rattle.std.proofs.lemmas.Nat.{one_shl}
use Rattle.sheet.specs.Fields.{Octets}
use Rattle.sheet.specs.Numbers.{number_between}
use Rattle.sheet.proofs.field.field.Goals as goal

pub returns : goal.returns
returns c =
    let octets : Octets c.args.octets.now = λ i. let fits = c.type_inv.octets i in omega arith in
    let short : c.args.width < 64 = omega arith in
    let inside : c.args.first + c.args.width ≤ 8 * ((c.args.first + c.args.width + 7) / 8) = omega arith in
    let whole : (c.args.first + c.args.width + 7) / 8 ≤ length c.args.octets.now = omega arith in
    let mask = one_shl c.args.width 64 short in
    let part = number_between c.args.octets.now c.args.first c.args.width ((c.args.first + c.args.width + 7) / 8) octets inside whole in
    record { value = cc }
