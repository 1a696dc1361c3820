-- Spans that repeat: when they begin, how long they last, when two of them share an instant, and which places of the cycle they cover and guard.
-- Assumes nothing.
use Rattle.std.specs.Prelude.{◌≡◌, ℕ, ◌+◌, ◌-◌, ◌*◌, ◌%◌, ◌<◌, ◌≤◌}

-- the first instant of span a, where span 0 begins at x and the spans repeat with period T
abbrev pub begins : ℕ → ℕ → ℕ → ℕ
begins x T a = x + a * T

-- instant t lies in span a, which lasts w
abbrev pub Within : ℕ → ℕ → ℕ → ℕ → ℕ → Type 0
Within x T w a t = (begins x T a ≤ t) × (t < begins x T a + w)

-- some span of the one (first x, period T, wire time v) shares an instant with some span of the other (first y, period U, wire time w)
pub record Share (x T v y U w : ℕ) : Type 0 where
  pub a : ℕ
  pub b : ℕ
  pub t : ℕ
  pub one : Within x T v a t
  pub other : Within y U w b t

-- a span covers an instant whose place in the cycle C is y
pub record Covers (C x T w y : ℕ) : Type 0 where
  pub a : ℕ
  pub t : ℕ
  pub within : Within x T w a t
  pub place : t % C ≡ y

-- the first instant of some span has a place b in the cycle C for which (b − y) modulo C is at most G
pub record Guards (C x T G y : ℕ) : Type 0 where
  pub a : ℕ
  pub near : (begins x T a % C + (C - y)) % C ≤ G
