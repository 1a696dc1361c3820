-- What the state of a port tells: a covered place is open for scheduled frames, and where best-effort frames may begin no guard band runs.
use mathlib.Core.Path.{◌≡◌, refl}
use mathlib.Core.List.{List}
use Prim.Native.Nat.{ℕ}
use native.Mathlib.Omega.{arith}
use Rattle.network.specs.Flows.{Flow, Network}
use Rattle.network.specs.Gates.{Covered, Guarded, State, scheduled, closed, unscheduled}

module _ {net : Network} {flows : List Flow} {q y : ℕ} where
  -- the state at a covered place is 0x80
  pub covered_0x80 : {s : ℕ} → State net flows q y s → Covered net flows q y → s ≡ 0x80
  covered_0x80 (scheduled c) covered = refl
  covered_0x80 (closed bare g) covered = absurd (bare covered)
  covered_0x80 (unscheduled bare free) covered = absurd (bare covered)

  -- a place with state 0x7f is not guarded
  pub 0x7f-unguarded : {s : ℕ} → State net flows q y s → s ≡ 0x7f → ¬ Guarded net flows q y
  0x7f-unguarded (scheduled c) e guarded = omega arith
  0x7f-unguarded (closed bare g) e guarded = omega arith
  0x7f-unguarded (unscheduled bare free) e guarded = free guarded
