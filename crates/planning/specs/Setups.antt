-- What a set-up tells a plan of its network, and the network that it makes with a line.
-- Assumes nothing.
use Rattle.std.specs.Prelude.{◌≡◌, ℕ, ◌<◌, ◌≤◌, List, length, slice_index_or}
use Rattle.line.specs.Meaning.{Meaning}
use Rattle.network.specs.Flows.{Network}

-- a port: its propagation delay d, the processing delay p at the node it leads to, and its largest best-effort length B
pub record Port : Type 0 where
  pub delay : ℕ
  pub processing : ℕ
  pub best : ℕ

-- a port that is not there
abbrev pub blank : Port
blank = record { delay = 0; processing = 0; best = 0 }

-- a set-up: the cycle C and the ports
pub record Setup : Type 0 where
  pub cycle : ℕ
  pub ports : List Port

-- the network of a line and a set-up
abbrev pub network : Meaning → Setup → Network
network m c = record {
  ports = m.ports;
  cycle = c.cycle;
  time = m.time;
  delay = λ q. (slice_index_or c.ports q blank).delay;
  processing = λ q. (slice_index_or c.ports q blank).processing;
  best = λ q. (slice_index_or c.ports q blank).best;
}

-- a set-up that a line whose largest frame is `most` accepts: the cycle within its limits, a record for each port, and no best-effort length below 64 or above the largest frame
pub record Accepted (most : ℕ) (m : Meaning) (c : Setup) : Type 0 where
  pub least : 1000 ≤ c.cycle
  pub greatest : c.cycle ≤ 1000000000
  pub ports : length c.ports ≡ m.ports
  pub shortest : (q : ℕ) → q < m.ports → 64 ≤ (slice_index_or c.ports q blank).best
  pub longest : (q : ℕ) → q < m.ports → (slice_index_or c.ports q blank).best ≤ most
