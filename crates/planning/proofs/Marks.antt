-- The marks of a hop: the first instants of its spans, their ends, and the beginnings of the guard bands before them.
-- Each lies at one place in a period, and the state of a port changes at marks alone.
-- Assumes nothing.
use Rattle.std.proofs.Common.{◌≡◌, ℕ, suc, ◌+◌, ◌-◌, ◌*◌, ◌<◌, ◌≤◌, Bool, not, ◌||◌, T, eqb, ◌⊎◌, List, sym, ◌∙◌, inl, inr, mod-eq_of_lt, arith, eqb→eq, T_not}
use native.Mathlib.Decide.{dec_lt}
use Rattle.spans.specs.Places.{ahead}
use Rattle.spans.proofs.Circle.{ahead_leads, ahead-below, ahead_unique, ahead-zero, leads-mod}
use Rattle.network.specs.Flows.{Hop, Flow, Network, Formed, guard}
use Rattle.network.specs.Overlap.{first}
use Rattle.planning.specs.Gates.{on_port, covered, guarded, state}
use Rattle.planning.proofs.Tests.{decided_passes, eqb-eq, or-one, or-other}
use Rattle.planning.proofs.OnPort.{SomeOn, on-port-all, some-on-map}
use Rattle.planning.proofs.GateStates.{since, until, covered-since, uncovered-since, guarded_until, unguarded_until, state-covered, state-closed, state_open}
use Rattle.planning.proofs.Counts.{count, count_or, Sparse, count_sparse}

-- from a place to the next one
since-step : (T x y : ℕ) → 0 < T → (ahead T (suc y) x ≡ 0) ⊎ (ahead T (suc y) x ≡ suc (ahead T y x))
since-step T x y pos =
    let up = ahead_leads T y x pos in
    let below = ahead-below T y x pos in
    elim (dec_lt (suc (ahead T y x)) T) [
      | yes less ↦ inr (ahead_unique T (suc y) x (suc (ahead T y x)) (record { i = up.i; j = up.j; meet = omega arith }) less)
      | no last ↦ inl (ahead_unique T (suc y) x 0 (record { i = up.i; j = up.j + 1; meet = omega arith }) pos)
    ]

until-step : (T x y : ℕ) → 0 < T → (ahead T x y ≡ 0) ⊎ (ahead T x y ≡ suc (ahead T x (suc y)))
until-step T x y pos =
    let up = ahead_leads T x y pos in
    let below = ahead-below T x y pos in
    elim (dec_lt 0 (ahead T x y)) [
      | yes some ↦
          let on = ahead_unique T x (suc y) (ahead T x y - 1) (record { i = up.i; j = up.j; meet = omega arith }) (omega arith) in
          inr (omega arith)
      | no none ↦ inl (omega arith)
    ]

-- less than a round further on the distances are others
whole_rounds : (g k i j : ℕ) → k + i * g ≡ j * g → k < g → k ≡ 0
whole_rounds g k i j whole less =
    let same = leads-mod g k 0 k 0 (record { i = 0; j = 0; meet = omega arith }) (record { i = i; j = j; meet = omega arith }) in
    let one = mod-eq_of_lt less in
    let pos : 0 < g = omega arith in
    let other = mod-eq_of_lt pos in
    omega arith

since-apart : (T x y z : ℕ) → y < z → z < y + T → ahead T z x ≡ ahead T y x → ⊥
since-apart T x y z later less same =
    let pos : 0 < T = omega arith in
    let one = ahead_leads T y x pos in
    let other = ahead_leads T z x pos in
    let none = whole_rounds T (z - y) (one.j + other.i) (one.i + other.j) (omega arith) (omega arith) in
    omega arith

until-apart : (T x y z : ℕ) → y < z → z < y + T → ahead T x z ≡ ahead T x y → ⊥
until-apart T x y z later less same =
    let pos : 0 < T = omega arith in
    let one = ahead_leads T x y pos in
    let other = ahead_leads T x z pos in
    let none = whole_rounds T (z - y) (one.i + other.j) (one.j + other.i) (omega arith) (omega arith) in
    omega arith

-- the first instant of a span of a flow at a hop, the end of one, and the beginning of the guard band G before one lie just after place y
abbrev pub begun : Flow → Hop → ℕ → Bool
begun f h y = eqb (since f h (suc y)) 0

abbrev pub ended : Flow → Hop → ℕ → Bool
ended f h y = eqb (since f h (suc y)) h.wire

abbrev pub neared : ℕ → Flow → Hop → ℕ → Bool
neared G f h y = eqb (until f h (suc y)) G

abbrev pub marked : ℕ → Flow → Hop → ℕ → Bool
marked G f h y = begun f h y || ended f h y || neared G f h y

module _ (f : Flow) (h : Hop) where
  since_sparse : (r : ℕ) → Sparse f.period (λ y. eqb (since f h (suc y)) r)
  since_sparse r y k some less one other =
      let at = eqb→eq (since f h (suc y)) r one in
      let also = eqb→eq (since f h (suc (y + k))) r other in
      since-apart f.period (first f h) (suc y) (suc (y + k)) (omega arith) (omega arith) (also ∙ sym at)

  until_sparse : (r : ℕ) → Sparse f.period (λ y. eqb (until f h (suc y)) r)
  until_sparse r y k some less one other =
      let at = eqb→eq (until f h (suc y)) r one in
      let also = eqb→eq (until f h (suc (y + k))) r other in
      until-apart f.period (first f h) (suc y) (suc (y + k)) (omega arith) (omega arith) (also ∙ sym at)

  -- in c periods there are c of each
  pub marked-count : (G c : ℕ) → count (marked G f h) 0 (c * f.period) ≤ 3 * c
  marked-count G c =
      let all = count_or (λ y. begun f h y || ended f h y) (neared G f h) 0 (c * f.period) in
      let spans = count_or (begun f h) (ended f h) 0 (c * f.period) in
      let one = count_sparse (begun f h) 0 f.period c (since_sparse 0) in
      let two = count_sparse (ended f h) 0 f.period c (since_sparse h.wire) in
      let three = count_sparse (neared G f h) 0 f.period c (until_sparse G) in
      omega arith

module _ (G : ℕ) (f : Flow) (h : Hop) (y : ℕ) where
  mark-begun : since f h (suc y) ≡ 0 → T (marked G f h y)
  mark-begun at =
      or-one (begun f h y || ended f h y) (neared G f h y)
      (or-one (begun f h y) (ended f h y) (eqb-eq (since f h (suc y)) 0 at))

  mark_ended : since f h (suc y) ≡ h.wire → T (marked G f h y)
  mark_ended at =
      or-one (begun f h y || ended f h y) (neared G f h y)
      (or-other (begun f h y) (ended f h y) (eqb-eq (since f h (suc y)) h.wire at))

  mark_neared : until f h (suc y) ≡ G → T (marked G f h y)
  mark_neared at = or-other (begun f h y || ended f h y) (neared G f h y) (eqb-eq (until f h (suc y)) G at)

-- the state changes after place y
abbrev pub changes : (ℕ → ℕ) → ℕ → Bool
changes states y = not (eqb (states y) (states (suc y)))

-- where the state changes lies a mark
module _ {net : Network} {flows : List Flow} (formed : Formed net flows) (q y : ℕ) where
  pub change_marked : T (changes (state net flows q) y) → T (on_port (λ f h. marked (guard net q) f h y) q flows)
  change_marked change =
      on-port-all (λ f h. marked (guard net q) f h y) q flows
      (go (decided_passes (covered flows q y)) (decided_passes (covered flows q (suc y))) (decided_passes (guarded net flows q y)) (decided_passes (guarded net flows q (suc y))))
    where
      still : (s : ℕ) → state net flows q y ≡ s → state net flows q (suc y) ≡ s → ⊥
      still s one other =
          T_not (eqb (state net flows q y) (state net flows q (suc y))) change
          (eqb-eq (state net flows q y) (state net flows q (suc y)) (one ∙ sym other))

      go : T (covered flows q y) ⊎ ¬ T (covered flows q y) → T (covered flows q (suc y)) ⊎ ¬ T (covered flows q (suc y)) →
          T (guarded net flows q y) ⊎ ¬ T (guarded net flows q y) → T (guarded net flows q (suc y)) ⊎ ¬ T (guarded net flows q (suc y)) →
          SomeOn flows q (λ f h. T (marked (guard net q) f h y))
      go (inl was) (inl is) g g' = absurd (still 0x80 (state-covered (guard net q) flows q y was) (state-covered (guard net q) flows q (suc y) is))
      go (inl was) (inr bare) g g' = some-on-map (λ j k f h flow hop port within.
          let well = formed.each j f flow in
          let after = uncovered-since flows q (suc y) bare j k f h flow hop port in
          elim (since-step f.period (first f h) y (omega arith)) [
            | inl start ↦ mark-begun (guard net q) f h y start
            | inr on ↦ mark_ended (guard net q) f h y (omega arith)
          ]) (covered-since flows q y was)
      go (inr bare) (inl is) g g' = some-on-map (λ j k f h flow hop port within.
          let well = formed.each j f flow in
          let after = uncovered-since flows q y bare j k f h flow hop port in
          elim (since-step f.period (first f h) y (omega arith)) [
            | inl start ↦ mark-begun (guard net q) f h y start
            | inr on ↦ absurd (omega arith)
          ]) (covered-since flows q (suc y) is)
      go (inr bare) (inr bare') (inl near) (inl near') =
          absurd (still 0x00 (state-closed (guard net q) flows q y bare near) (state-closed (guard net q) flows q (suc y) bare' near'))
      go (inr bare) (inr bare') (inl near) (inr free) = some-on-map (λ j k f h flow hop port within.
          let well = formed.each j f flow in
          let carried = well.carried k h hop in
          let after = uncovered-since flows q y bare j k f h flow hop port in
          let before = unguarded_until (guard net q) flows q (suc y) free j k f h flow hop port in
          elim (until-step f.period (first f h) y (omega arith)) [
            | inl start ↦ let at = ahead-zero f.period (first f h) y (omega arith) start in absurd (omega arith)
            | inr on ↦ absurd (omega arith)
          ]) (guarded_until (guard net q) flows q y near)
      go (inr bare) (inr bare') (inr free) (inl near) = some-on-map (λ j k f h flow hop port within.
          let well = formed.each j f flow in
          let before = unguarded_until (guard net q) flows q y free j k f h flow hop port in
          elim (until-step f.period (first f h) y (omega arith)) [
            | inl start ↦ absurd (omega arith)
            | inr on ↦ mark_neared (guard net q) f h y (omega arith)
          ]) (guarded_until (guard net q) flows q (suc y) near)
      go (inr bare) (inr bare') (inr free) (inr free') =
          absurd (still 0x7f (state_open (guard net q) flows q y bare free) (state_open (guard net q) flows q (suc y) bare' free'))
