-- Of the answers on how far spans have to move, one alone holds.
-- Assumes nothing.
use Rattle.std.proofs.Common.{◌≡◌, ℕ, refl, ap, subst, add-zero, arith}
use native.Mathlib.Decide.{dec_lt}
use Rattle.spans.specs.Overlap.{Shares, SharesMoved, Clears}
use Rattle.spans.specs.Spans.{Share}
use Rattle.spans.specs.declared.span.Spans.{Spans}
use Rattle.spans.specs.declared.span.overlap.Clearance.{Clearance}
use Rattle.spans.specs.declared.span.overlap.Clearance.TheVariants.{Clear, After, Never}

pub shares_still : (one other : Spans) → SharesMoved 0 one other → Shares one other
shares_still one other =
    subst (λ (x : ℕ). Share x one.period one.wire other.first other.period other.wire) (add-zero one.first)

-- every answer but Clear says that they share an instant
pub after-shares : (one other : Spans) (n : ℕ) → Clears one other (After n) → Shares one other
after-shares one other n (pos, before, clear) = shares_still one other (before 0 pos)

pub never-shares : (one other : Spans) → Clears one other Never → Shares one other
never-shares one other always = shares_still one other (always 0)

pub shares-unless_clear : (one other : Spans) (r : Clearance) → Clears one other r → (r ≡ Clear → ⊥) → Shares one other
shares-unless_clear one other Clear is some = absurd (some refl)
shares-unless_clear one other (After n) is some = after-shares one other n is
shares-unless_clear one other Never is some = never-shares one other is

pub clears-alone : (one other : Spans) (r k : Clearance) → Clears one other r → Clears one other k → k ≡ r
clears-alone one other Clear Clear is also = refl
clears-alone one other Clear (After n) is also = absurd (is (after-shares one other n also))
clears-alone one other Clear Never is also = absurd (is (never-shares one other also))
clears-alone one other (After m) Clear is also = absurd (also (after-shares one other m is))
clears-alone one other (After m) (After n) is also =
    elim (dec_lt m n) [
      | yes less ↦ absurd (is.2 (also.1 m less))
      | no not-less ↦
          elim (dec_lt n m) [
            | yes more ↦ absurd (also.2 (is.1 n more))
            | no not_more ↦ ap After (omega arith)
          ]
    ]
clears-alone one other (After m) Never is also = absurd (is.2 (also m))
clears-alone one other Never Clear is also = absurd (also (never-shares one other is))
clears-alone one other Never (After n) is also = absurd (also.2 (is n))
clears-alone one other Never Never is also = refl

-- what is promised of an answer that holds
pub answer : (one other : Spans) (r : Clearance) → Clears one other r → record { clears : Clears one other r; alone : (k : Clearance) → Clears one other k → k ≡ r }
answer one other r holds = record { clears = holds; alone = λ k. clears-alone one other r k holds }
