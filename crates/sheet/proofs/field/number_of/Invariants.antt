-- The octets so far as one number.
use Rattle.std.proofs.Common.{◌≡◌, ◌*◌, ◌^◌, ◌<◌, take}
use Rattle.sheet.specs.Fields.{number}
use Rattle.sheet.proofs.field.number_of.Given as goal

abbrev pub invariant-loop-octet : goal.invariant-loop-octet
invariant-loop-octet l =
    (l.word ≡ number (take l.octet-index l.octets)) × (l.word < 2 ^ (8 * l.octet-index))
