-- Flows and the network that carries them: hops, offsets, total time, and what makes a flow well formed.
-- Assumes nothing.
use Rattle.std.specs.Prelude.{◌≡◌, List, [], ◌∷◌, ℕ, zero, suc, ◌+◌, ◌*◌, ◌≤◌, ◌<◌, length}

-- x stands at index n of a list
pub data At {A : Type 0} : List A → ℕ → A → Type 0 where
  here : {x : A} {xs : List A} → At (x ∷ xs) zero x
  next : {x y : A} {xs : List A} {n : ℕ} → At xs n x → At (y ∷ xs) (suc n) x

-- one hop of a route: its port q, its offset o from the start, and the wire time w of the flow's frames there
pub record Hop : Type 0 where
  pub port : ℕ
  pub offset : ℕ
  pub wire : ℕ

-- a flow: its number, the length of its frames, its period T, deadline, start s, and the hops of its route in order
pub record Flow : Type 0 where
  pub number : ℕ
  pub length : ℕ
  pub period : ℕ
  pub deadline : ℕ
  pub start : ℕ
  pub hops : List Hop

-- a network: its number of ports N, its cycle C, the wire time of a length on a port, and of each port
-- the propagation delay d, the processing delay p at the node it leads to, and the largest best-effort length B
pub record Network : Type 0 where
  pub ports : ℕ
  pub cycle : ℕ
  pub time : ℕ → ℕ → ℕ
  pub delay : ℕ → ℕ
  pub processing : ℕ → ℕ
  pub best : ℕ → ℕ

-- from the instant a frame begins at a hop to the instant it is ready at the next one: wire time + d + p
abbrev pub step : Network → Hop → ℕ
step net h = h.wire + net.delay h.port + net.processing h.port

-- from the instant a frame begins at its last hop to the instant it arrives: wire time + d
abbrev pub arrival : Network → Hop → ℕ
arrival net h = h.wire + net.delay h.port

-- the total time of a route: the last hop's offset + its wire time + d
abbrev pub total : Network → List Hop → ℕ
total net [] = 0
total net (h ∷ []) = h.offset + arrival net h
total net (h ∷ i ∷ hs) = total net (i ∷ hs)

-- the guard band G of a port: the wire time of its largest best-effort length
abbrev pub guard : Network → ℕ → ℕ
guard net q = net.time q (net.best q)

-- the hops of a route: hop 0 has offset 0, the next hop's offset is one step further, and no port stands twice
pub record Route (net : Network) (hops : List Hop) : Type 0 where
  pub some : 0 < length hops
  pub from : (h : Hop) → At hops 0 h → h.offset ≡ 0
  pub on : (k : ℕ) (h i : Hop) → At hops k h → At hops (suc k) i → i.offset ≡ h.offset + step net h
  pub apart : (j k : ℕ) (h i : Hop) → At hops j h → At hops k i → h.port ≡ i.port → j ≡ k

-- a hop of a flow: its port is the network's, and its wire time is that of the flow's length there, from 1 to the period
pub record Carried (net : Network) (f : Flow) (h : Hop) : Type 0 where
  pub port : h.port < net.ports
  pub wire : h.wire ≡ net.time h.port f.length
  pub some : 0 < h.wire
  pub within : h.wire ≤ f.period

-- a well-formed flow
pub record Well (net : Network) (f : Flow) : Type 0 where
  pub periods : ℕ
  pub divides : net.cycle ≡ periods * f.period
  pub start : f.start < f.period
  pub route : Route net f.hops
  pub carried : (k : ℕ) (h : Hop) → At f.hops k h → Carried net f h
  pub deadline : total net f.hops ≤ f.deadline

-- well-formed flows, no two of one number
pub record Formed (net : Network) (flows : List Flow) : Type 0 where
  pub each : (j : ℕ) (f : Flow) → At flows j f → Well net f
  pub numbers : (i j : ℕ) (f g : Flow) → At flows i f → At flows j g → f.number ≡ g.number → i ≡ j

-- a network on which a best-effort frame that its port allows takes time, and never more than the guard band
pub record Sound (net : Network) : Type 0 where
  pub cycle : 0 < net.cycle
  pub some : (q l : ℕ) → q < net.ports → 64 ≤ l → l ≤ net.best q → 0 < net.time q l
  pub within : (q l : ℕ) → q < net.ports → 64 ≤ l → l ≤ net.best q → net.time q l ≤ guard net q
