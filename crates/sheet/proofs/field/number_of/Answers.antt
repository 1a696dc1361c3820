use Rattle.std.proofs.Common.{◌+◌, ◌*◌, ◌<◌, ◌≤◌, arith}
use Rattle.sheet.specs.Numbers.{number_more, octet_more, word_fits}
use Rattle.sheet.proofs.field.number_of.Goals as goal

pub overflow_mul-word : goal.overflow_mul-word
overflow_mul-word c =
    let more = octet_more c.loop-octet.octet-index c.loop-octet.word 0 c.loop-octet.invariant.1 (omega arith) in
    let few : c.loop-octet.octet-index + 1 ≤ 8 = omega arith in
    let fits = word_fits (c.loop-octet.octet-index + 1) (c.loop-octet.word * 256 + 0) more few in
    omega arith

pub loop-octet-preserved : goal.loop-octet-preserved
loop-octet-preserved c =
    let octet = c.type_inv.octets c.loop-octet.octet-index in
    let is = c.from.ensures in
    let top : c.from.result < 256 = omega arith in
    let more = number_more c.args.octets.now c.loop-octet.octet-index c.loop-octet-test.true in
    (omega arith, octet_more c.loop-octet.octet-index c.loop-octet.word c.from.result c.loop-octet.invariant.1 top)
