-- A run of the network: what begins on each port at each instant, when a frame is ready, and when it waits.
-- A run is a relation between what is sent and what the gates allow; it is no program.
-- Assumes nothing.
use Rattle.std.specs.Prelude.{◌≡◌, List, ◌⊎◌, ℕ, suc, ◌+◌, ◌*◌, ◌%◌, ◌≤◌, ◌<◌}
use Rattle.network.specs.Flows.{At, Hop, Flow, Network, step}

-- what begins on a port at an instant: nothing, frame a of a flow at a hop, or a best-effort frame of some length
pub data Sending : Type 0 where
  nothing : Sending
  frame : Flow → Hop → ℕ → Sending
  best : ℕ → Sending

-- what begins on each port at each instant
abbrev pub Sent : Type 0
Sent = ℕ → ℕ → Sending

-- for how long a sending holds the wire of port q
abbrev pub lasts : Network → ℕ → Sending → ℕ
lasts net q nothing = 0
lasts net q (frame f h a) = h.wire
lasts net q (best l) = net.time q l

-- the wire of port q is idle at instant t: whatever began before has ended
abbrev pub Idle : Network → Sent → ℕ → ℕ → Type 0
Idle net sent q t = (u : ℕ) → u < t → u + lasts net q (sent q u) ≤ t

-- frame a of flow f is ready at its hop k, which is h, at instant r
pub data Ready (net : Network) (sent : Sent) (f : Flow) (a : ℕ) : ℕ → Hop → ℕ → Type 0 where
  initially : {h : Hop} → At f.hops 0 h → Ready net sent f a 0 h (f.start + a * f.period)
  onward : {k u : ℕ} {h i : Hop} → At f.hops k h → sent h.port u ≡ frame f h a → At f.hops (suc k) i → Ready net sent f a (suc k) i (u + step net h)

-- at instant t frame a of flow f, one of the flows, is queued at hop h: it has been ready since r and has not begun
pub record Queued (net : Network) (flows : List Flow) (sent : Sent) (f : Flow) (h : Hop) (a r t : ℕ) : Type 0 where
  pub j : ℕ
  pub k : ℕ
  pub flow : At flows j f
  pub hop : At f.hops k h
  pub ready : Ready net sent f a k h r
  pub since : r ≤ t
  pub unsent : (u : ℕ) → u < t → ¬ (sent h.port u ≡ frame f h a)

-- and it is the head of the queue of its port: every frame queued there became ready later, or at the same instant with no smaller flow number
abbrev pub Head : Network → List Flow → Sent → Flow → Hop → ℕ → ℕ → Type 0
Head net flows sent f h r t = (g : Flow) (i : Hop) (b z : ℕ) → i.port ≡ h.port → Queued net flows sent g i b z t → (r < z) ⊎ ((r ≡ z) × (f.number ≤ g.number))

-- the frame may begin at t: it is the head, the wire is idle, and the state is 0x80 at t and throughout its wire time
pub record May (net : Network) (flows : List Flow) (gate : ℕ → ℕ → ℕ) (sent : Sent) (f : Flow) (h : Hop) (a t : ℕ) : Type 0 where
  pub r : ℕ
  pub queued : Queued net flows sent f h a r t
  pub head : Head net flows sent f h r t
  pub idle : Idle net sent h.port t
  pub opened : (n : ℕ) → n < h.wire → gate h.port ((t + n) % net.cycle) ≡ 0x80

-- a best-effort frame of length l may begin on port q at t: its length is from 64 to B, the state is 0x7f and the wire is idle
pub record Spare (net : Network) (gate : ℕ → ℕ → ℕ) (sent : Sent) (q t l : ℕ) : Type 0 where
  pub port : q < net.ports
  pub least : 64 ≤ l
  pub most : l ≤ net.best q
  pub opened : gate q (t % net.cycle) ≡ 0x7f
  pub idle : Idle net sent q t

-- a run from an idle network, under gates that give each port a state at each place of the cycle:
-- a scheduled frame begins exactly at the instant it may, and any best-effort frames begin only where they may
pub record Run (net : Network) (flows : List Flow) (gate : ℕ → ℕ → ℕ) (sent : Sent) : Type 0 where
  pub begins : (f : Flow) (h : Hop) (a t : ℕ) → May net flows gate sent f h a t → sent h.port t ≡ frame f h a
  pub only : (q t a : ℕ) (f : Flow) (h : Hop) → sent q t ≡ frame f h a → (h.port ≡ q) × May net flows gate sent f h a t
  pub others : (q t l : ℕ) → sent q t ≡ best l → Spare net gate sent q t l

-- some scheduled frame waits: at a port where it is ready at r it does not begin at r
pub record Waits (net : Network) (flows : List Flow) (sent : Sent) : Type 0 where
  pub j : ℕ
  pub k : ℕ
  pub a : ℕ
  pub r : ℕ
  pub f : Flow
  pub h : Hop
  pub flow : At flows j f
  pub hop : At f.hops k h
  pub ready : Ready net sent f a k h r
  pub late : ¬ (sent h.port r ≡ frame f h a)

-- frame a of flow f arrives at instant t: it began at its last hop, and one wire time and one propagation delay have passed
pub record Arrives (net : Network) (sent : Sent) (f : Flow) (a t : ℕ) : Type 0 where
  pub k : ℕ
  pub u : ℕ
  pub h : Hop
  pub hop : At f.hops k h
  pub last : (i : Hop) → ¬ At f.hops (suc k) i
  pub begun : sent h.port u ≡ frame f h a
  pub after : t ≡ u + h.wire + net.delay h.port
