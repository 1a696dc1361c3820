-- The tests that compute decide which places are covered and guarded, so the computed state is the one state of a place.
-- Assumes nothing.
use Rattle.std.proofs.Common.{◌≡◌, ℕ, ◌<◌, ◌≤◌, Bool, true, false, cond, T, ltb, leb, List, refl, arith, ltb→lt, lt→ltb, leb→le}
use native.Mathlib.Decide.{dec_le, dec_lt}
use Rattle.spans.specs.Divisors.{Divides}
use Rattle.spans.specs.Places.{ahead, DecidesCover, DecidesGuard}
use Rattle.spans.proofs.Cover.{since_decides, until_decides}
use Rattle.network.specs.Flows.{Hop, Flow, Network, Well, Formed, guard}
use Rattle.network.specs.Overlap.{first}
use Rattle.network.specs.Gates.{Covered, Guarded, State, scheduled, closed, unscheduled}
use Rattle.network.proofs.GateLists.{state_unique}
use Rattle.planning.specs.Gates.{covered, guarded_by, guarded, state_by, state}
use Rattle.planning.proofs.OnPort.{SomeOn, EachOn, on-port-only, on-port-all, some-on-map}

-- how far place y lies after the latest first instant of a flow's spans at a hop
abbrev pub since : Flow → Hop → ℕ → ℕ
since f h y = ahead f.period y (first f h)

-- how far the next first instant of a flow's spans at a hop lies after place y
abbrev pub until : Flow → Hop → ℕ → ℕ
until f h y = ahead f.period (first f h) y

module _ (flows : List Flow) (q y : ℕ) where
  -- a place is covered exactly when it lies less than the wire time of some hop on the port after a first instant
  pub covered-since : T (covered flows q y) → SomeOn flows q (λ f h. since f h y < h.wire)
  covered-since pass =
      some-on-map (λ j k f h flow hop port. ltb→lt (since f h y) h.wire) (on-port-only (λ f h. ltb (since f h y) h.wire) q flows pass)

  pub since-covered : SomeOn flows q (λ f h. since f h y < h.wire) → T (covered flows q y)
  since-covered some =
      on-port-all (λ f h. ltb (since f h y) h.wire) q flows (some-on-map (λ j k f h flow hop port. lt→ltb (since f h y) h.wire) some)

  pub uncovered-since : ¬ T (covered flows q y) → EachOn flows q (λ f h. h.wire ≤ since f h y)
  uncovered-since bare j k f h flow hop port = elim (dec_le h.wire (since f h y)) [
    | yes after ↦ after
    | no within ↦
        absurd (bare (since-covered (record { j = j; k = k; f = f; h = h; flow = flow; hop = hop; port = port; holds = omega arith })))
  ]

module _ (G : ℕ) (flows : List Flow) (q y : ℕ) where
  -- a place is guarded exactly when it lies at most G before a first instant of some hop on the port
  pub until-guarded : SomeOn flows q (λ f h. until f h y ≤ G) → T (guarded_by G flows q y)
  until-guarded some =
      on-port-all _ q flows (some-on-map (λ j k f h flow hop port near. grind arith) some)

  pub guarded_until : T (guarded_by G flows q y) → SomeOn flows q (λ f h. until f h y ≤ G)
  guarded_until pass =
      some-on-map (λ j k f h flow hop port. leb→le (until f h y) G) (on-port-only (λ f h. leb (until f h y) G) q flows pass)

  pub unguarded_until : ¬ T (guarded_by G flows q y) → EachOn flows q (λ f h. G < until f h y)
  unguarded_until free j k f h flow hop port = elim (dec_lt G (until f h y)) [
    | yes before ↦ before
    | no within ↦
        absurd (free (until-guarded (record { j = j; k = k; f = f; h = h; flow = flow; hop = hop; port = port; holds = omega arith })))
  ]

module _ {net : Network} {f : Flow} (well : Well net f) where
  divides : Divides f.period net.cycle
  divides = (well.periods, well.divides)

  since-tells : (h : Hop) (y : ℕ) → DecidesCover (first f h) f.period y (since f h y)
  since-tells h y = since_decides (first f h) f.period y (since f h y) (omega arith) refl

  until-tells : (h : Hop) (y : ℕ) → DecidesGuard (first f h) f.period y (until f h y)
  until-tells h y = until_decides (first f h) f.period y (until f h y) (omega arith) refl

module _ (net : Network) (flows : List Flow) (q y : ℕ) (formed : Formed net flows) (below : y < net.cycle) where
  -- the test of a covered place
  pub covered-only : T (covered flows q y) → Covered net flows q y
  covered-only pass =
      let some = covered-since flows q y pass in
      let h = some.h in
      let well = formed.each some.j some.f some.flow in
      record {
        j = some.j;
        k = some.k;
        f = some.f;
        h = h;
        flow = some.flow;
        hop = some.hop;
        port = some.port;
        covers = (since-tells well h y).all net.cycle h.wire (divides well) below some.holds;
      }

  pub covered-all : Covered net flows q y → T (covered flows q y)
  covered-all some =
      let h = some.h in
      let well = formed.each some.j some.f some.flow in
      since-covered flows q y (record {
        j = some.j;
        k = some.k;
        f = some.f;
        h = h;
        flow = some.flow;
        hop = some.hop;
        port = some.port;
        holds = (since-tells well h y).only net.cycle h.wire (divides well) below some.covers;
      })

  -- the test of a guarded place
  pub guarded-only : T (guarded net flows q y) → Guarded net flows q y
  guarded-only pass =
      let some = guarded_until (guard net q) flows q y pass in
      let h = some.h in
      let well = formed.each some.j some.f some.flow in
      record {
        j = some.j;
        k = some.k;
        f = some.f;
        h = h;
        flow = some.flow;
        hop = some.hop;
        port = some.port;
        guards = (until-tells well h y).all net.cycle (guard net q) (divides well) below some.holds;
      }

  pub guarded-all : Guarded net flows q y → T (guarded net flows q y)
  guarded-all some =
      let h = some.h in
      let well = formed.each some.j some.f some.flow in
      until-guarded (guard net q) flows q y (record {
        j = some.j;
        k = some.k;
        f = some.f;
        h = h;
        flow = some.flow;
        hop = some.hop;
        port = some.port;
        holds = (until-tells well h y).only net.cycle (guard net q) (divides well) below some.guards;
      })

  -- the computed state is the state of the place ..
  pub state-is : State net flows q y (state net flows q y)
  state-is = go (covered flows q y) (guarded net flows q y) covered-only covered-all guarded-only guarded-all
    where
      go : (c g : Bool) → (T c → Covered net flows q y) → (Covered net flows q y → T c) →
          (T g → Guarded net flows q y) → (Guarded net flows q y → T g) → State net flows q y (cond c 0x80 (cond g 0x00 0x7f))
      go true g covered bare guarded free = scheduled (covered tt)
      go false true covered bare guarded free = closed bare (guarded tt)
      go false false covered bare guarded free = unscheduled bare free

  -- .. and it has no other
  pub state-alone : (s : ℕ) → State net flows q y s → s ≡ state net flows q y
  state-alone s is = state_unique is state-is

module _ (G : ℕ) (flows : List Flow) (q y : ℕ) where
  pub state-covered : T (covered flows q y) → state_by G flows q y ≡ 0x80
  state-covered pass = go (covered flows q y) pass
    where
      go : (c : Bool) → T c → ◌≡◌ {A = ℕ} (cond c 0x80 (cond (guarded_by G flows q y) 0x00 0x7f)) 0x80
      go true pass = refl
      go false pass = absurd pass

  pub state-closed : ¬ T (covered flows q y) → T (guarded_by G flows q y) → state_by G flows q y ≡ 0x00
  state-closed bare near = go (covered flows q y) (guarded_by G flows q y) bare near
    where
      go : (c g : Bool) → ¬ T c → T g → ◌≡◌ {A = ℕ} (cond c 0x80 (cond g 0x00 0x7f)) 0x00
      go true g bare near = absurd (bare tt)
      go false true bare near = refl
      go false false bare near = absurd near

  pub state_open : ¬ T (covered flows q y) → ¬ T (guarded_by G flows q y) → state_by G flows q y ≡ 0x7f
  state_open bare free = go (covered flows q y) (guarded_by G flows q y) bare free
    where
      go : (c g : Bool) → ¬ T c → ¬ T g → ◌≡◌ {A = ℕ} (cond c 0x80 (cond g 0x00 0x7f)) 0x7f
      go true g bare free = absurd (bare tt)
      go false true bare free = absurd (free tt)
      go false false bare free = refl
