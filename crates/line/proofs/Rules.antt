-- The laws of the trait, one fact each, put together as the four rules.
-- Assumes nothing.
use Rattle.std.proofs.Common.{◌≡◌, ℕ, ◌<◌, ◌≤◌, ◌⊎◌, inl, inr, arith}
use native.Mathlib.Decide.{dec_le, dec_lt}
use Rattle.line.specs.Meaning.{Meaning, Rules}

pub rules-from : (most : ℕ) (m : Meaning) → 64 ≤ most → most ≤ 9600 → 1 ≤ m.ports → m.ports ≤ 32 →
    ((q l : ℕ) → m.ports ≤ q → m.time q l ≡ 0) → ((q l : ℕ) → l < 64 → m.time q l ≡ 0) → ((q l : ℕ) → most < l → m.time q l ≡ 0) →
    ((q l : ℕ) → q < m.ports → 64 ≤ l → l ≤ most → 1 ≤ m.time q l) → ((q l : ℕ) → m.time q l ≤ 10000000) →
    ((q l l' : ℕ) → 64 ≤ l → l ≤ l' → l' ≤ most → m.time q l ≤ m.time q l') → Rules most m
rules-from most m least greatest some few absent short long timed bounded longer = record {
  least = least;
  greatest = greatest;
  some = some;
  few = few;
  zero = λ q l. elim [ inl none ↦ absent q l none | inr (inl under) ↦ short q l under | inr (inr over) ↦ long q l over ];
  only = outside;
  bounded = bounded;
  longer = λ q l l' _. longer q l l';
}
  where
    outside : (q l : ℕ) → m.time q l ≡ 0 → (m.ports ≤ q) ⊎ ((l < 64) ⊎ (most < l))
    outside q l none = elim (dec_le m.ports q) [
      | yes beyond ↦ inl beyond
      | no there ↦ elim (dec_lt l 64) [
        | yes under ↦ inr (inl under)
        | no from ↦ elim (dec_lt most l) [
          | yes over ↦ inr (inr over)
          | no fits ↦ let takes = timed q l (omega arith) (omega arith) (omega arith) in absurd (omega arith)
        ]
      ]
    ]
