-- From what a clearance says of spans to what it says of tests.
-- Assumes nothing.
use Rattle.std.proofs.Common.{◌≡◌, ℕ, ◌+◌, Bool, true, false, ◌&&◌, sym, refl, ap, ◌∙◌, subst, add-zero, arith, eq-eqb}
use Rattle.spans.specs.Formula.{shares}
use Rattle.spans.specs.Overlap.{Clears}
use Rattle.spans.specs.Spans.{Share}
use Rattle.spans.specs.declared.span.Spans.{Spans}
use Rattle.spans.specs.declared.span.overlap.Clearance.{Clearance}
use Rattle.spans.specs.declared.span.overlap.Clearance.TheVariants.{Clear, After, Never}
use Rattle.spans.proofs.Formula.{decides-shares}
use Rattle.network.specs.Flows.{Flow, Hop}
use Rattle.network.specs.Overlap.{first, starting}
use Rattle.planning.specs.Overlaps.{meets}
use Rattle.plan.specs.Moves.{Moves, clash}

-- spans that clash, once the first have moved up by m
abbrev pub moved : Spans → Spans → ℕ → Bool
moved one other m = shares (one.first + m) one.period one.wire other.first other.period other.wire

decided_false : (b : Bool) (P : Type 0) → (b ≡ true → P) → (P → ⊥) → b ≡ false
decided_false b P gives none = go b gives
  where
    go : (b : Bool) → (b ≡ true → P) → b ≡ false
    go true gives = absurd (none (gives refl))
    go false gives = refl

pub clears_moves : (one other : Spans) (r : Clearance) → Clears one other r → Moves (moved one other) r
clears_moves one other r clears = go r clears
  where
    decides : (m : ℕ) → (shares (one.first + m) one.period one.wire other.first other.period other.wire ≡ true → Share (one.first + m) one.period one.wire other.first other.period other.wire) × (Share (one.first + m) one.period one.wire other.first other.period other.wire → shares (one.first + m) one.period one.wire other.first other.period other.wire ≡ true)
    decides m = decides-shares (one.first + m) one.period one.wire other.first other.period other.wire one.repeats other.repeats

    go : (r : Clearance) → Clears one other r → Moves (moved one other) r
    go Clear none = decided_false (moved one other 0) _ (decides 0).0 (λ share. none (subst (λ (x : ℕ). Share x one.period one.wire other.first other.period other.wire) (add-zero one.first) share))
    go (After n) after = (after.0, λ m below. (decides m).1 (after.1 m below))
    go Never never = λ m. (decides m).1 (never m)

-- tests that agree say the same
pub moves-same : (p P : ℕ → Bool) (r : Clearance) → ((m : ℕ) → p m ≡ P m) → Moves p r → Moves P r
moves-same p P Clear same moves = sym (same 0) ∙ moves
moves-same p P (After n) same moves = (moves.0, λ m below. sym (same m) ∙ moves.1 m below)
moves-same p P Never same moves = λ m. sym (same m) ∙ moves m

-- a test that passes wherever another does keeps what that one says, unless it is clear
pub moves_wider : (p P : ℕ → Bool) (r : Clearance) → ((m : ℕ) → p m ≡ true → P m ≡ true) → (r ≡ Clear → ⊥) → Moves p r → Moves P r
moves_wider p P Clear wider clash moves = absurd (clash refl)
moves_wider p P (After n) wider clash moves = (moves.0, λ m below. wider m (moves.1 m below))
moves_wider p P Never wider clash moves = λ m. wider m (moves m)

-- held spans that are those of a hop on the same port clash as the hop does
pub moved-clash : (one held : Spans) (q : ℕ) (g : Flow) (i : Hop) → q ≡ i.port → held.first ≡ first g i → held.period ≡ g.period → held.wire ≡ i.wire →
    (m : ℕ) → moved one held m ≡ clash one q g i m
moved-clash one held q g i port from period wire m =
    let on = eq-eqb q i.port port in
    let same : moved one held m ≡ shares (one.first + m) one.period one.wire (first g i) g.period i.wire = cc in
    same ∙ sym (ap (λ (b : Bool). b && shares (one.first + m) one.period one.wire (first g i) g.period i.wire) on)

-- moving spans that are those of a flow's hop from start s clash as the flow does once it has moved
pub clash-meets : (one : Spans) (s : ℕ) (f : Flow) (h : Hop) (g : Flow) (i : Hop) → one.first ≡ s + h.offset → one.period ≡ f.period → one.wire ≡ h.wire →
    (m : ℕ) → clash one h.port g i m ≡ meets (starting (s + m) f) h g i
clash-meets one s f h g i from period wire m =
    let at : one.first + m ≡ s + m + h.offset = omega arith in
    cc
