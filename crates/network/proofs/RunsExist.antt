-- Runs exist: from instant to instant each port begins the frame that may begin there, and never a best-effort frame.
use mathlib.Core.Path.{◌≡◌, refl, ap, subst}
use mathlib.Core.List.{List}
use Prim.Native.Nat.{ℕ, zero, suc}
use native.Mathlib.Decide.{ℕ_discrete}
use native.Mathlib.Omega.{arith}
use Rattle.network.specs.Flows.{Hop, Flow, Network, Formed}
use Rattle.network.specs.Run.{Sending, nothing, frame, best, Sent, May, Run}
use Rattle.network.specs.Theorems.{RunsExist}
use Rattle.network.proofs.Queues.{MayOn, decided_may_on}
use Rattle.network.proofs.Heads.{may-same}
use Rattle.network.proofs.Past.{SameBefore, same-before-sym, may_past}

-- what a port begins at t after a past: the frame that may begin, or nothing
abbrev chosen : {net : Network} {flows : List Flow} {gate : ℕ → ℕ → ℕ} {past : Sent} {q t : ℕ} → Dec (MayOn net flows gate past q t) → Sending
chosen (yes found) = frame found.0 found.1 found.2
chosen (no none) = nothing

-- what a port is allowed to begin at t after a past without best-effort frames
abbrev Allowed : Network → List Flow → (ℕ → ℕ → ℕ) → Sent → ℕ → ℕ → Sending → Type 0
Allowed net flows gate past q t nothing = Unit {0}
Allowed net flows gate past q t (frame f h a) = (h.port ≡ q) × May net flows gate past f h a t
Allowed net flows gate past q t (best l) = ⊥

chosen_allowed : {net : Network} {flows : List Flow} {gate : ℕ → ℕ → ℕ} {past : Sent} {q t : ℕ} (decision : Dec (MayOn net flows gate past q t)) →
    Allowed net flows gate past q t (chosen decision)
chosen_allowed (yes found) = (found.3, found.4)
chosen_allowed (no none) = tt

-- a past, and beside it what each port begins at t
abbrev added : Sent → (ℕ → Sending) → (t q u : ℕ) → Dec (u ≡ t) → Sending
added past now t q u (yes same) = now q
added past now t q u (no other) = past q u

module _ (net : Network) (flows : List Flow) (gate : ℕ → ℕ → ℕ) (formed : Formed net flows) where
  -- what each port begins at t after a past
  begin : Sent → ℕ → ℕ → Sending
  begin past t q = chosen (decided_may_on net flows formed past t gate q)

  -- what has begun before t, and nothing from then on
  before : ℕ → Sent
  before zero q u = nothing
  before (suc t) q u = added (before t) (begin (before t) t) t q u (ℕ_discrete u t)

  -- what begins at each instant after what has begun before
  sends : Sent
  sends q t = begin (before t) t q

  sends-before : (t : ℕ) → SameBefore t sends (before t)
  unfolding before sends
  sends-before zero q u lt = absurd (omega arith)
  sends-before (suc t) q u lt =
      elim (ℕ_discrete u t) as (λ d. begin (before u) u q ≡ added (before t) (begin (before t) t) t q u d) [
        | yes same ↦ ap (λ (n : ℕ). begin (before n) n q) same
        | no other ↦ sends-before t q u (omega arith)
      ]

  -- a frame that may begin is the one that does
  sends-begins : (f : Flow) (h : Hop) (a t : ℕ) → May net flows gate sends f h a t → sends h.port t ≡ frame f h a
  unfolding begin sends
  sends-begins f h a t may =
      let past = may_past formed t (sends-before t) may in
      elim (decided_may_on net flows formed (before t) t gate h.port) as (λ d. chosen d ≡ frame f h a) [
        | yes found ↦ may-same formed found.4 past found.3
        | no none ↦ absurd (none (f, h, a, refl, past))
      ]

  -- what begins is allowed to
  sends_allowed : (q t : ℕ) {x : Sending} → sends q t ≡ x → Allowed net flows gate (before t) q t x
  unfolding begin sends
  sends_allowed q t begun = subst (Allowed net flows gate (before t) q t) begun (chosen_allowed (decided_may_on net flows formed (before t) t gate q))

  sends_run : Run net flows gate sends
  sends_run =
      record {
        begins = sends-begins;
        only = λ q t a f h begun.
            let (port, may) = sends_allowed q t begun in
            (port, may_past formed t (same-before-sym (sends-before t)) may);
        others = λ q t l begun. absurd (sends_allowed q t begun);
      }

-- runs exist, whether the flows overlap or not and whatever the gates
pub runs_exist : RunsExist
runs_exist net flows gate formed = (sends net flows gate formed, sends_run net flows gate formed)
