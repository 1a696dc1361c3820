-- What an answer on the overlap of two sets of spans says.
-- Assumes nothing.
use Rattle.std.specs.Prelude.{ℕ, ◌+◌, ◌<◌}
use Rattle.spans.specs.Spans.{Share}
use Rattle.spans.specs.declared.span.Spans.{Spans}
use Rattle.spans.specs.declared.span.overlap.Clearance.{Clearance}
use Rattle.spans.specs.declared.span.overlap.Clearance.TheVariants.{Clear, After, Never}

-- some span of one shares an instant with some span of the other
abbrev pub Shares : Spans → Spans → Type 0
Shares one other = Share one.first one.period one.wire other.first other.period other.wire

-- the same, once the spans of one have moved up by m
abbrev pub SharesMoved : ℕ → Spans → Spans → Type 0
SharesMoved m one other = Share (one.first + m) one.period one.wire other.first other.period other.wire

-- what each answer means: they share no instant; moved up by less than n they share one, and by n none; or they share one however far the spans of one move up
abbrev pub Clears : Spans → Spans → Clearance → Type 0
Clears one other Clear = Shares one other → ⊥
Clears one other (After n) = (0 < n) × ((m : ℕ) → m < n → SharesMoved m one other) × (SharesMoved n one other → ⊥)
Clears one other Never = (m : ℕ) → SharesMoved m one other
