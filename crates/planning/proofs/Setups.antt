-- What the rules of a line and an accepted set-up give: frames take time, and never more than the guard band.
-- Assumes nothing.
use Rattle.std.proofs.Common.{ℕ, arith}
use native.Mathlib.Decide.{dec_lt}
use Rattle.line.specs.Meaning.{Meaning, Rules}
use Rattle.network.specs.Flows.{Sound}
use Rattle.planning.specs.Setups.{Setup, Accepted, network}
use Rattle.planning.proofs.Offers.{Timed}

module _ (most : ℕ) (m : Meaning) (c : Setup) (rules : Rules most m) where
  pub rules_timed : Timed (network m c) most
  rules_timed q l low least long = elim (dec_lt 0 (m.time q l)) [
    | yes some ↦ some
    | no none ↦ let never = rules.only q l (omega arith) in absurd (omega arith)
  ]

  pub accepted_sound : Accepted most m c → Sound (network m c)
  accepted_sound accepted = record {
    cycle = let least = accepted.least in omega arith;
    some = λ q l low least below. let longest = accepted.longest q low in rules_timed q l low least (omega arith);
    within = λ q l low least below. rules.longer q l ((network m c).best q) low least below (accepted.longest q low);
  }
