-- The time of a length that a port carries, and 0 of any other.
-- Assumes nothing.
use Rattle.std.specs.Prelude.{◌≡◌, ℕ, ◌<◌, ◌≤◌, Bool, true, false, cond, T, nat_le, nat_lt, refl}
use Rattle.std.proofs.Common.{ltb→lt, leb→le, lt→ltb, le→leb}
use Rattle.line.specs.Times.{carried}

-- what holds of the time where the port carries the length, and of 0, holds of it anywhere
pub carried_by_cases : (P : ℕ → Type 0) (N most q l w : ℕ) → (q < N → 64 ≤ l → l ≤ most → P w) → P 0 → P (carried N most q l w)
carried_by_cases P N most q l w yes-case none = go (nat_lt q N) (nat_le 64 l) (nat_le l most) (ltb→lt q N) (leb→le 64 l) (leb→le l most)
  where
    go : (a b c : Bool) → (T a → q < N) → (T b → 64 ≤ l) → (T c → l ≤ most) → P (cond a (cond b (cond c w 0) 0) 0)
    go true true true f g h = yes-case (f tt) (g tt) (h tt)
    go true true false f g h = none
    go true false c f g h = none
    go false b c f g h = none

pub carried_within : (N most q l w : ℕ) → q < N → 64 ≤ l → l ≤ most → carried N most q l w ≡ w
carried_within N most q l w port least fits = go (nat_lt q N) (nat_le 64 l) (nat_le l most) (lt→ltb q N port) (le→leb 64 l least) (le→leb l most fits)
  where
    go : (a b c : Bool) → T a → T b → T c → cond a (cond b (cond c w 0) 0) 0 ≡ w
    go true true true x y z = refl
    go true true false x y z = absurd z
    go true false c x y z = absurd y
    go false b c x y z = absurd x
