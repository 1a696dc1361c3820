-- For how long the state at a place lasts: until the last span that covers it ends, or the next one or its guard band begins.
-- Assumes nothing.
use Rattle.std.proofs.Common.{◌≡◌, ℕ, ◌+◌, ◌-◌, ◌<◌, ◌≤◌, T, List, arith}
use native.Mathlib.Decide.{dec_lt}
use Rattle.spans.proofs.Circle.{ahead-zero, until-later, since-later, since-before}
use Rattle.network.specs.Flows.{Hop, Flow, Network, Formed}
use Rattle.network.specs.Overlap.{first}
use Rattle.planning.specs.Gates.{covered, guarded_by, state_by, Lasts}
use Rattle.planning.proofs.OnPort.{SomeOn, EachOn, at_some, some-on-map}
use Rattle.planning.proofs.GateStates.{since, until, covered-since, since-covered, guarded_until, until-guarded, state-covered, state-closed, state_open}

-- spans of a flow at a hop: each lasts at least 1, and at most until the next begins
pub record Repeats (f : Flow) (h : Hop) : Type 0 where
  pub some : 0 < h.wire
  pub within : h.wire ≤ f.period

-- those of well-formed flows do
pub formed_repeats : {net : Network} {flows : List Flow} → Formed net flows → (q : ℕ) → EachOn flows q Repeats
formed_repeats formed q j k f h flow hop port =
    let carried = (formed.each j f flow).carried k h hop in
    record { some = carried.some; within = carried.within }

-- no span on port q covers place y
abbrev pub Bare : List Flow → ℕ → ℕ → Type 0
Bare flows q y = EachOn flows q (λ f h. h.wire ≤ since f h y)

-- no first instant on port q lies less than n places after y
abbrev pub Free : List Flow → ℕ → ℕ → ℕ → Type 0
Free flows q y n = EachOn flows q (λ f h. n ≤ until f h y)

-- some first instant on port q lies n places after y
abbrev pub Comes : List Flow → ℕ → ℕ → ℕ → Type 0
Comes flows q y n = SomeOn flows q (λ f h. until f h y ≡ n)

bare_uncovered : (flows : List Flow) (q y : ℕ) → Bare flows q y → ¬ T (covered flows q y)
bare_uncovered flows q y bare pass =
    let some = covered-since flows q y pass in
    let after = at_some bare some in
    let within = some.holds in
    omega arith

free_unguarded : (G : ℕ) (flows : List Flow) (q y n : ℕ) → Free flows q y n → G < n → ¬ T (guarded_by G flows q y)
free_unguarded G flows q y n free far pass =
    let some = guarded_until G flows q y pass in
    let least = at_some free some in
    let within = some.holds in
    omega arith

module _ {flows : List Flow} (q : ℕ) (repeats : EachOn flows q Repeats) (G y n : ℕ) where
  -- a place stays covered as long as a span that covers it goes on
  pub covered-lasts : SomeOn flows q (λ f h. since f h y + n ≤ h.wire) → Lasts (state_by G flows q) y n 0x80
  covered-lasts some k less =
      state-covered G flows q (y + k) (since-covered flows q (y + k) (some-on-map (λ j i f h flow hop port within.
      let spans = repeats j i f h flow hop port in
      let on = since-later f.period (first f h) y k (omega arith) in
      omega arith) some))

  -- no first instant is at a place that is not covered, since spans last at least 1
  pub comes-later : Bare flows q y → Comes flows q y n → 0 < n
  comes-later bare comes = elim (dec_lt 0 n) [
    | yes some ↦ some
    | no none ↦
        let f = comes.f in
        let h = comes.h in
        let spans = at_some repeats comes in
        let at = comes.holds in
        let start = ahead-zero f.period (first f h) y (omega arith) (omega arith) in
        let after = at_some bare comes in
        absurd (omega arith)
  ]

  -- before the next first instant no place is covered either ..
  bare-before : Bare flows q y → Free flows q y n → (k : ℕ) → k < n → Bare flows q (y + k)
  bare-before bare free k less j i f h flow hop port =
      let spans = repeats j i f h flow hop port in
      let least = free j i f h flow hop port in
      let on = since-before f.period (first f h) y k (omega arith) (omega arith) in
      let was = bare j i f h flow hop port in
      omega arith

  -- .. and it lies as much nearer
  free-later : Free flows q y n → (k : ℕ) → k ≤ n → Free flows q (y + k) (n - k)
  free-later free k le j i f h flow hop port =
      let spans = repeats j i f h flow hop port in
      let least = free j i f h flow hop port in
      let on = until-later f.period (first f h) y k (omega arith) (omega arith) in
      omega arith

  comes_nearer : Comes flows q y n → (k : ℕ) → k ≤ n → Comes flows q (y + k) (n - k)
  comes_nearer comes k le = some-on-map (λ j i f h flow hop port at.
      let spans = repeats j i f h flow hop port in
      let on = until-later f.period (first f h) y k (omega arith) (omega arith) in
      omega arith) comes

  -- so in the guard band the place stays closed up to the next first instant
  pub closed-lasts : Bare flows q y → Free flows q y n → Comes flows q y n → n ≤ G → Lasts (state_by G flows q) y n 0x00
  closed-lasts bare free comes near k less =
      state-closed G flows q (y + k)
      (bare_uncovered flows q (y + k) (bare-before bare free k less))
      (until-guarded G flows q (y + k) (some-on-map (λ j i f h flow hop port at. omega arith) (comes_nearer comes k (omega arith))))

  -- and before it the place stays open up to the guard band
  pub open-lasts : Bare flows q y → Free flows q y n → Lasts (state_by G flows q) y (n - G) 0x7f
  open-lasts bare free k less =
      state_open G flows q (y + k)
      (bare_uncovered flows q (y + k) (bare-before bare free k (omega arith)))
      (free_unguarded G flows q (y + k) (n - k) (free-later free k (omega arith)) (omega arith))
