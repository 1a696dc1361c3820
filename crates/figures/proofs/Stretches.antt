-- A gate list stretch by stretch: for how long a state lasts, by tests that compute, and the list of stretches that fill the cycle.
-- Assumes nothing.
use Rattle.std.proofs.Common.{◌≡◌, ℕ, ◌+◌, ◌-◌, ◌<◌, ◌≤◌, Bool, true, false, not, ◌&&◌, T, eqb, ltb, leb, List, [], ◌∷◌, Some, Ok, sym, ap, ◌∙◌, subst, arith, ltb→lt, leb→le}
use Rattle.std.proofs.lemmas.Bool.{cond-true, lt-ltb, eqb-false}
use Rattle.network.specs.Flows.{Flow, guard}
use Rattle.network.specs.Gates.{Gate, durations}
use Rattle.planning.specs.Gates.{on_port, covered, guarded_by, state_by, Lasts, recorded}
use Rattle.planning.specs.Setups.{Setup, network}
use Rattle.planning.proofs.OnPort.{EachOn, on-port-only, on-port-all, some-on-map}
use Rattle.planning.proofs.GateStates.{since, uncovered-since, guarded_until, unguarded_until}
use Rattle.planning.proofs.Lasts.{Repeats, Free, covered-lasts, closed-lasts, open-lasts}
use Rattle.plan.specs.Calls.{Wires}
use Rattle.plan.specs.Steps.{list_of}
use Rattle.plan.proofs.Staying.{stretch-first}

passes : {b : Bool} → b ≡ true → T b
passes is = subst T (sym is) tt

fails : {b : Bool} → b ≡ false → ¬ T b
fails is pass = subst T is pass

-- no hop on the port has a wire time of 0, or one above the period
pub repeats_by_test : (flows : List Flow) (q : ℕ) → on_port (λ f h. not (ltb 0 h.wire && leb h.wire f.period)) q flows ≡ false → EachOn flows q Repeats
repeats_by_test flows q none j k f h flow hop port =
    go (ltb 0 h.wire) (leb h.wire f.period) (ltb→lt 0 h.wire) (leb→le h.wire f.period)
    (λ not_so. fails none (on-port-all (λ f h. not (ltb 0 h.wire && leb h.wire f.period)) q flows
    (record { j = j; k = k; f = f; h = h; flow = flow; hop = hop; port = port; holds = not_so })))
  where
    go : (a b : Bool) → (T a → 0 < h.wire) → (T b → h.wire ≤ f.period) → ¬ T (not (a && b)) → Repeats f h
    go true true some within pass = record { some = some tt; within = within tt }
    go true false some within pass = absurd (pass tt)
    go false b some within pass = absurd (pass tt)

module _ (G : ℕ) (flows : List Flow) (q : ℕ) (repeats : EachOn flows q Repeats) (y n : ℕ) where
  -- a span that covers y goes on for n places
  pub covered_for : on_port (λ f h. leb (since f h y + n) h.wire) q flows ≡ true → Lasts (state_by G flows q) y n 0x80
  covered_for on =
      covered-lasts q repeats G y n (some-on-map (λ j k f h flow hop port. leb→le (since f h y + n) h.wire)
      (on-port-only (λ f h. leb (since f h y + n) h.wire) q flows (passes on)))

  free_by_test : (m : ℕ) → guarded_by (m - 1) flows q y ≡ false → Free flows q y m
  free_by_test m none j k f h flow hop port = let far = unguarded_until (m - 1) flows q y (fails none) j k f h flow hop port in omega arith

  -- none covers y, and the next first instant comes m places later, within the guard band
  pub closed_for : (m : ℕ) → n ≤ m → m ≤ G → covered flows q y ≡ false → guarded_by (m - 1) flows q y ≡ false → guarded_by m flows q y ≡ true → Lasts (state_by G flows q) y n 0x00
  closed_for m fewer near bare none some k less =
      let free = free_by_test m none in
      closed-lasts q repeats G y m (uncovered-since flows q y (fails bare)) free
      (some-on-map (λ j i f h flow hop port within. let least = free j i f h flow hop port in omega arith) (guarded_until m flows q y (passes some)))
      near k (omega arith)

  -- none covers y, and no first instant comes before n places and the guard band
  pub open_for : covered flows q y ≡ false → guarded_by (G + n - 1) flows q y ≡ false → Lasts (state_by G flows q) y n 0x7f
  open_for bare none k less = open-lasts q repeats G y (G + n) (uncovered-since flows q y (fails bare)) (free_by_test (G + n) none) k (omega arith)

-- the states from place y on are those of gate records: each lasts its duration, and is another one after that
pub data Stretches (states : ℕ → ℕ) : ℕ → List Gate → Type 0 where
  last : {y n s : ℕ} → 0 < n → Lasts states y n s → Stretches states y (record { state = s; duration = n } ∷ [])
  then : {y n s : ℕ} {e : Gate} {es : List Gate} → 0 < n → Lasts states y n s → eqb (states (y + n)) s ≡ false →
      Stretches states (y + n) (e ∷ es) → Stretches states y (record { state = s; duration = n } ∷ e ∷ es)

-- where they end at C, they are the records of the places from y to C
recorded_stretches : (C : ℕ) (states : ℕ → ℕ) {y : ℕ} {es : List Gate} → y + durations es ≡ C → Stretches states y es → recorded states y (C - y) ≡ es
recorded_stretches C states {y} whole (last {n = n} {s = s} some lasts) =
    let none : C - (y + n) ≡ 0 = omega arith in
    stretch-first states C y n s some (omega arith) lasts (λ less. absurd (omega arith)) ∙
    ap (λ (m : ℕ). record { state = s; duration = n } ∷ recorded states (y + n) m) none
recorded_stretches C states {y} whole (then {n = n} {s = s} some lasts changes rest) =
    stretch-first states C y n s some (omega arith) lasts (λ less. eqb-false (states (y + n)) s changes) ∙
    ap (λ (es : List Gate). record { state = s; duration = n } ∷ es) (recorded_stretches C states (omega arith) rest)

-- where they fill the cycle, they are the gate list of a port
pub listed_stretches : (w : Wires) (c : Setup) (flows : List Flow) (q : ℕ) (es : List Gate) → q < w.meaning.ports → durations es ≡ c.cycle →
    Stretches (state_by (guard (network w.meaning c) q) flows q) 0 es → list_of w (record { setup = Some c; held = flows }) q ≡ Ok es
listed_stretches w c flows q es there whole all =
    let states = state_by (guard (network w.meaning c) q) flows q in
    let from : c.cycle ≡ c.cycle - 0 = omega arith in
    cond-true (ltb q w.meaning.ports) _ _ (lt-ltb q w.meaning.ports there) ∙
    ap Ok (ap (recorded states 0) from ∙ recorded_stretches c.cycle states (omega arith) all)
