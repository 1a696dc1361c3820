-- What is seen from a place tells the state there, and for how long it lasts.
-- Assumes nothing.
use Rattle.std.proofs.Common.{◌≡◌, ℕ, zero, suc, ◌+◌, ◌-◌, ◌<◌, ◌≤◌, List, [], ◌∷◌, map, length, get_or, take, refl, ap, ◌∙◌, subst, arith}
use native.Mathlib.Decide.{dec_lt}
use Rattle.network.specs.Flows as network
use Rattle.network.specs.Flows.{At, here, next}
use Rattle.network.proofs.Lists.{At-empty}
use Rattle.planning.specs.Gates.{state_by, Lasts, recorded}
use Rattle.planning.proofs.OnPort.{EachOn, some-on-map}
use Rattle.planning.proofs.Lasts.{Repeats, Bare, Free, Comes, covered-lasts, comes-later, closed-lasts, open-lasts}
use Rattle.planning.proofs.Stretches.{recorded_stretch}
use Rattle.plan.specs.declared.row.Hop.{Hop}
use Rattle.plan.specs.declared.row.Row.{Row}
use Rattle.plan.specs.Looks.{left_at, next_at, left_on, next_on}
use Rattle.plan.specs.Rows.{hop, flow, flows, blank, none}
use Rattle.plan.proofs.Held.{each-flow}
use Rattle.plan.proofs.Seen.{max_picks, min_picks, flows-each, flows-some}

-- a hop of a stored flow is a stored hop
hop-stored : (hops : List Hop) (n : ℕ) {k : ℕ} {h : network.Hop} → At (map hop (take n hops)) k h → (k < n) × (hop (get_or hops k blank) ≡ h)
hop-stored [] zero at = absurd (At-empty at)
hop-stored [] (suc n) at = absurd (At-empty at)
hop-stored (x ∷ hops) zero at = absurd (At-empty at)
hop-stored (x ∷ hops) (suc n) here = (omega arith, refl)
hop-stored (x ∷ hops) (suc n) (next at) = let (below, is) = hop-stored hops n at in (omega arith, is)

-- the spans of the flows that rows hold last from 1 to the period
pub rows_repeat : (rows : List Row) (q : ℕ) → EachOn (flows rows) q Repeats
rows_repeat rows q j k f h at hop-at port = each-flow (λ g. (i : ℕ) (x : network.Hop) → At g.hops i x → Repeats g x) rows each j f at k h hop-at
  where
    each : (n : ℕ) → n < length rows → (i : ℕ) (x : network.Hop) → At (flow (get_or rows n none)).hops i x → Repeats (flow (get_or rows n none)) x
    each n below i x on =
        let row = get_or rows n none in
        let (within, is) = hop-stored row.hops row.count on in
        let times = row.within i within in
        subst (λ (y : network.Hop). Repeats (flow row) y) is (record { some = times.wire_least; within = times.wire_most })

-- a state that lasts n places lasts any fewer
lasts_fewer : (states : ℕ → ℕ) (y s n m : ℕ) → m ≤ n → Lasts states y n s → Lasts states y m s
lasts_fewer states y s n m le lasts k less = lasts k (omega arith)

module _ (rows : List Row) (G q y : ℕ) where
  -- a span that covers the place goes on
  pub left-lasts : (n : ℕ) → 0 < left_on (flows rows) q y → n ≤ left_on (flows rows) q y → Lasts (state_by G (flows rows) q) y n 0x80
  left-lasts n some le =
      covered-lasts q (rows_repeat rows q) G y n (some-on-map (λ j k f h flow hop port is. omega arith)
      (flows-some max_picks 0 q (left_at y) (flows rows) (λ none. omega arith)))

  -- none covers it: ..
  bare : left_on (flows rows) q y ≡ 0 → Bare (flows rows) q y
  bare none j k f h flow hop port = let le = flows-each max_picks 0 q (left_at y) (flows rows) j k f h flow hop port in omega arith

  free : Free (flows rows) q y (next_on (flows rows) q y)
  free = flows-each min_picks 0xffff_ffff q (next_at y) (flows rows)

  comes : next_on (flows rows) q y < 0xffff_ffff → Comes (flows rows) q y (next_on (flows rows) q y)
  comes some = flows-some min_picks 0xffff_ffff q (next_at y) (flows rows) (λ none. omega arith)

  -- .. then the next first instant comes later ..
  pub next-some : left_on (flows rows) q y ≡ 0 → next_on (flows rows) q y < 0xffff_ffff → 0 < next_on (flows rows) q y
  next-some none some = comes-later q (rows_repeat rows q) G y (next_on (flows rows) q y) (bare none) (comes some)

  -- .. and within the guard band the gates stay closed up to it ..
  pub next-lasts : (n : ℕ) → left_on (flows rows) q y ≡ 0 → next_on (flows rows) q y < 0xffff_ffff → next_on (flows rows) q y ≤ G → n ≤ next_on (flows rows) q y → Lasts (state_by G (flows rows) q) y n 0x00
  next-lasts n none some near le =
      lasts_fewer (state_by G (flows rows) q) y 0x00 (next_on (flows rows) q y) n le
      (closed-lasts q (rows_repeat rows q) G y (next_on (flows rows) q y) (bare none) free (comes some) near)

  -- .. and before it open up to the guard band
  pub rest-lasts : (n : ℕ) → left_on (flows rows) q y ≡ 0 → n ≤ next_on (flows rows) q y - G → Lasts (state_by G (flows rows) q) y n 0x7f
  rest-lasts n none le =
      lasts_fewer (state_by G (flows rows) q) y 0x7f (next_on (flows rows) q y - G) n le
      (open-lasts q (rows_repeat rows q) G y (next_on (flows rows) q y) (bare none) free)

-- a state that lasts n places, and then m more
pub lasts_more : (states : ℕ → ℕ) (y s n m r : ℕ) → Lasts states y n s → Lasts states (y + n) m r → r ≡ s → Lasts states y (n + m) s
lasts_more states y s n m r lasts more same k less = elim (dec_lt k n) [
  | yes before ↦ lasts k before
  | no after ↦ subst (λ (x : ℕ). states x ≡ r) (omega arith) (more (k - n) (omega arith)) ∙ same
]

-- the first record from a place on, up to where the state changes or the cycle ends
pub stretch-first : (states : ℕ → ℕ) (C y n s : ℕ) → 0 < n → y + n ≤ C → Lasts states y n s → (y + n < C → ¬ (states (y + n) ≡ s)) →
    recorded states y (C - y) ≡ record { state = s; duration = n } ∷ recorded states (y + n) (C - (y + n))
stretch-first states C y n s some within lasts ends =
    let rest : C - y - n ≡ C - (y + n) = omega arith in
    recorded_stretch y n (C - y) s states some (omega arith) lasts (λ less. ends (omega arith)) ∙
    ap (λ (m : ℕ). record { state = s; duration = n } ∷ recorded states (y + n) m) rest
