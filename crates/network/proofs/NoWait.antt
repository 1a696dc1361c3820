-- Flows that do not overlap keep their plan in every run: by induction on the instant, each frame begins at its planned instant and never else.
use mathlib.Core.Path.{◌≡◌, refl, sym, ap, subst}
use mathlib.Core.List.{List}
use mathlib.Core.Logic.{inr}
use Prim.Native.Nat.{ℕ, zero, suc, ◌+◌, ◌%◌, ◌≤◌, ◌<◌}
use native.Mathlib.Nat.{mod-lt}
use native.Mathlib.Decide.{dec_le, dec_lt}
use native.Mathlib.Omega.{arith}
use Rattle.network.specs.Flows.{At, Hop, Flow, Network, Formed, Sound}
use Rattle.network.specs.Overlap.{Apart}
use Rattle.network.specs.Run.{Sent, Sending, nothing, frame, best, lasts, Idle, Head, May, Run}
use Rattle.network.specs.Theorems.{Follow, Kept, NoWait}
use Rattle.network.proofs.Lists.{has_last}
use Rattle.network.proofs.Places.{place-ahead-≤}
use Rattle.network.proofs.States.{covered_0x80, 0x7f-unguarded}
use Rattle.network.proofs.Plans.{planned, Planned, wire-before-next, total-last, one-flow, ready_planned, planned-ready}

module _ {net : Network} {flows : List Flow} {gate : ℕ → ℕ → ℕ} {sent : Sent}
    (sound : Sound net) (formed : Formed net flows) (apart : Apart flows) (follow : Follow net flows gate) (run : Run net flows gate sent) where
  -- while all has gone as planned before t ..
  module _ {t : ℕ} (history : Planned flows sent t) where
    -- .. a frame that begins by t begins at its planned instant: were that earlier, it would have begun then
    begins_planned : (q u a : ℕ) (f : Flow) (h : Hop) → u ≤ t → sent q u ≡ frame f h a → u ≡ planned f h a
    begins_planned q u a f h le begun =
        let queued = (run.only q u a f h begun).1.queued in
        let since = queued.since in
        let ready = ready_planned formed history queued.flow queued.ready (omega arith) in
        elim (dec_lt (planned f h a) u) [
          | yes early ↦ absurd (queued.unsent (planned f h a) early (history.begun queued.j queued.k a f h queued.flow queued.hop (omega arith)))
          | no late ↦ omega arith
        ]

    -- .. and a frame whose planned instant is by t may begin then:
    module _ {j k : ℕ} {f : Flow} {h : Hop} (a : ℕ) (flow : At flows j f) (hop : At f.hops k h) (soon : planned f h a ≤ t) where
      -- a scheduled frame before it has left the wire: else the two flows overlap, or are one, whose wire time is within the period
      frame_ended : {j' k' : ℕ} {g : Flow} {i : Hop} (b : ℕ) → At flows j' g → At g.hops k' i → h.port ≡ i.port →
          planned g i b < planned f h a → planned g i b + i.wire ≤ planned f h a
      frame_ended {k' = k'} {g} {i} b flow' hop' port lt = elim (dec_le (planned g i b + i.wire) (planned f h a)) [
        | yes ended ↦ ended
        | no on-wire ↦
            let well = formed.each j f flow in
            let some = (well.carried k h hop).some in
            let same = one-flow apart flow flow' hop hop' port a b (planned f h a) (omega arith) (omega arith) in
            subst (λ (x : Flow). At x.hops k' i → planned x i b < planned f h a → planned x i b + i.wire ≤ planned f h a) same
            (λ hop''. wire-before-next well a b hop hop'' port) hop' lt
      ]

      -- a best-effort frame before it has left the wire: else it began in the guard band
      best_ended : (u l : ℕ) → sent h.port u ≡ best l → u < planned f h a → u + net.time h.port l ≤ planned f h a
      best_ended u l begun lt = elim (dec_le (u + net.time h.port l) (planned f h a)) [
        | yes ended ↦ ended
        | no on-wire ↦
            let spare = run.others h.port u l begun in
            let short = sound.within h.port l spare.port spare.least spare.most in
            let state = follow h.port (u % net.cycle) spare.port (mod-lt u sound.cycle) in
            let near = place-ahead-≤ net.cycle u (planned f h a) sound.cycle (omega arith) in
            absurd (0x7f-unguarded state spare.opened (record {
              j = j;
              k = k;
              f = f;
              h = h;
              flow = flow;
              hop = hop;
              port = refl;
              guards = record { a = a; near = omega arith };
            }))
      ]

      -- so the wire is idle
      wire-idle : Idle net sent h.port (planned f h a)
      wire-idle u lt = let ended = go (sent h.port u) refl in omega arith
        where
          go : (x : Sending) → sent h.port u ≡ x → u + lasts net h.port x ≤ planned f h a
          go nothing begun = omega arith
          go (frame g i b) begun =
              let only = run.only h.port u b g i begun in
              let queued = only.1.queued in
              let at = begins_planned h.port u b g i (omega arith) begun in
              let ended = frame_ended b queued.flow queued.hop (sym only.0) (omega arith) in
              omega arith
          go (best l) begun = best_ended u l begun lt

      -- it is the head of the queue: one that was ready before has begun, and one that is ready at the same instant is of the same flow
      queue-head : Head net flows sent f h (planned f h a) (planned f h a)
      queue-head g i b z port queued =
          let since = queued.since in
          let ready = ready_planned formed history queued.flow queued.ready (omega arith) in
          elim (dec_lt z (planned f h a)) [
            | yes early ↦ absurd (queued.unsent (planned g i b) (omega arith) (history.begun queued.j queued.k b g i queued.flow queued.hop (omega arith)))
            | no late ↦
                let some = ((formed.each j f flow).carried k h hop).some in
                let some' = ((formed.each queued.j g queued.flow).carried queued.k i queued.hop).some in
                let same = one-flow apart flow queued.flow hop queued.hop (sym port) a b (planned f h a) (omega arith) (omega arith) in
                let number = ap (λ (x : Flow). x.number) same in
                inr (omega arith, omega arith)
          ]

      -- and the state is 0x80 throughout its wire time, since it covers each place
      may_begin : May net flows gate sent f h a (planned f h a)
      may_begin = record {
        r = planned f h a;
        queued = record {
          j = j;
          k = k;
          flow = flow;
          hop = hop;
          ready = planned-ready formed history k a flow hop soon;
          since = omega arith;
          unsent = λ u lt begun. let at = begins_planned h.port u a f h (omega arith) begun in omega arith;
        };
        head = queue-head;
        idle = wire-idle;
        opened = λ n lt.
            let u = planned f h a + n in
            let port = ((formed.each j f flow).carried k h hop).port in
            covered_0x80 (follow h.port (u % net.cycle) port (mod-lt u sound.cycle)) (record {
              j = j;
              k = k;
              f = f;
              h = h;
              flow = flow;
              hop = hop;
              port = refl;
              covers = record { a = a; t = u; within = omega arith; place = refl };
            });
      }

    -- so all goes as planned at t too
    planned-next : Planned flows sent (suc t)
    planned-next = record {
      only = λ q u a f h lt begun. begins_planned q u a f h (omega arith) begun;
      begun = λ j k a f h flow hop lt. run.begins f h a (planned f h a) (may_begin a flow hop (omega arith));
    }

  -- all goes as planned
  all_planned : (t : ℕ) → Planned flows sent t
  all_planned zero = record { only = λ q u a f h lt begun. omega arith; begun = λ j k a f h flow hop lt. absurd (omega arith) }
  all_planned (suc t) = planned-next (all_planned t)

  -- each frame keeps its plan
  kept : (j a : ℕ) (f : Flow) → At flows j f → Kept net sent f a
  kept j a f flow = record {
    ready = λ k h hop. planned-ready formed (all_planned (planned f h a)) k a flow hop (omega arith);
    only = λ k r h ready. ready_planned formed (all_planned r) flow ready (omega arith);
    begun = begun;
    arrives =
        let (k, h, last) = has_last f.hops (formed.each j f flow).route.some in (
          planned f h a + h.wire + net.delay h.port,
          record { k = k; u = planned f h a; h = h; hop = last.at; last = last.end; begun = begun k h last.at; after = refl },
        );
    intime = λ t arrives.
        let h = arrives.h in
        let at = (all_planned (suc arrives.u)).only h.port arrives.u a f h (omega arith) arrives.begun in
        let total = total-last net f.hops arrives.hop arrives.last in
        let deadline = (formed.each j f flow).deadline in
        let after = arrives.after in
        omega arith;
  }
    where
      begun : (k : ℕ) (h : Hop) → At f.hops k h → sent h.port (planned f h a) ≡ frame f h a
      begun k h hop = (all_planned (suc (planned f h a))).begun j k a f h flow hop (omega arith)

-- flows that do not overlap keep their plan in every run under gates with the defined states
pub no_wait : NoWait
no_wait net flows gate sent sound formed apart follow run = kept sound formed apart follow run
