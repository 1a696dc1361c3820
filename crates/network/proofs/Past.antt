-- What may begin at an instant depends only on what began before it.
use mathlib.Core.Path.{◌≡◌, ◌∙◌, sym, ap}
use mathlib.Core.List.{List}
use Prim.Native.Nat.{ℕ, ◌≤◌, ◌<◌}
use native.Mathlib.Omega.{arith}
use Rattle.network.specs.Flows.{Hop, Flow, Network, Well, Formed}
use Rattle.network.specs.Run.{Sent, lasts, Idle, Ready, initially, onward, Queued, May}

-- the same began before t on each port
abbrev pub SameBefore : ℕ → Sent → Sent → Type 0
SameBefore t sent past = (q u : ℕ) → u < t → sent q u ≡ past q u

pub same-before-sym : {t : ℕ} {sent past : Sent} → SameBefore t sent past → SameBefore t past sent
same-before-sym same q u lt = sym (same q u lt)

module _ {net : Network} {flows : List Flow} (formed : Formed net flows) (t : ℕ) where
  -- a frame that is ready by t began at the hop before earlier than t, since a step takes at least one instant
  ready_past : {sent past : Sent} {f : Flow} {a k : ℕ} {h : Hop} {r : ℕ} →
      SameBefore t sent past → Well net f → Ready net sent f a k h r → r ≤ t → Ready net past f a k h r
  ready_past same well (initially hop) by = initially hop
  ready_past same well (onward {k = k} {u = u} {h = h} hop begun following) by =
      let some = (well.carried k h hop).some in
      onward hop (sym (same h.port u (omega arith)) ∙ begun) following

  queued_past : {sent past : Sent} → SameBefore t sent past → {f : Flow} {h : Hop} {a r : ℕ} →
      Queued net flows sent f h a r t → Queued net flows past f h a r t
  queued_past same {f} {h} queued =
      record {
        j = queued.j;
        k = queued.k;
        flow = queued.flow;
        hop = queued.hop;
        ready = ready_past same (formed.each queued.j f queued.flow) queued.ready queued.since;
        since = queued.since;
        unsent = λ u lt begun. queued.unsent u lt (same h.port u lt ∙ begun);
      }

  idle_past : {sent past : Sent} → SameBefore t sent past → (q : ℕ) → Idle net sent q t → Idle net past q t
  idle_past same q idle u lt = let held = ap (lasts net q) (same q u lt) in let ended = idle u lt in omega arith

  pub may_past : {sent past : Sent} {gate : ℕ → ℕ → ℕ} → SameBefore t sent past → {f : Flow} {h : Hop} {a : ℕ} →
      May net flows gate sent f h a t → May net flows gate past f h a t
  may_past same {h = h} may =
      record {
        r = may.r;
        queued = queued_past same may.queued;
        head = λ g i b z port queued. may.head g i b z port (queued_past (same-before-sym same) queued);
        idle = idle_past same h.port may.idle;
        opened = may.opened;
      }
