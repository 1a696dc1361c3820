-- Distances round a circle, and how they decide which places of a cycle are covered and guarded.
-- Assumes nothing.
use Rattle.std.specs.Prelude.{ℕ, ◌+◌, ◌-◌, ◌%◌, ◌<◌, ◌≤◌}
use Rattle.spans.specs.Divisors.{Divides}
use Rattle.spans.specs.Spans.{Covers, Guards}

-- how far x lies ahead of y round a circle of g, which is not 0
unfoldable pub ahead : ℕ → ℕ → ℕ → ℕ
ahead g x y = (x + (g - y % g)) % g

-- in every cycle C that the period T divides, the spans with first instant x cover the place y exactly when they last longer than r
pub record DecidesCover (x T y r : ℕ) : Type 0 where
  pub only : (C w : ℕ) → Divides T C → y < C → Covers C x T w y → r < w
  pub all : (C w : ℕ) → Divides T C → y < C → r < w → Covers C x T w y

-- in every cycle C that the period T divides, the spans with first instant x guard the place y exactly when the guard G is at least r
pub record DecidesGuard (x T y r : ℕ) : Type 0 where
  pub only : (C G : ℕ) → Divides T C → y < C → Guards C x T G y → r ≤ G
  pub all : (C G : ℕ) → Divides T C → y < C → r ≤ G → Guards C x T G y
