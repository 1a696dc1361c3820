-- What a line means, and the rules that every line keeps.
-- Assumes nothing.
use Rattle.std.specs.Prelude.{◌≡◌, ℕ, ◌<◌, ◌≤◌, ◌⊎◌}

-- the number of ports N, and the wire time of a length on a port, in nanoseconds
pub record Meaning : Type 0 where
  pub ports : ℕ
  pub time : ℕ → ℕ → ℕ

-- a line whose largest frame is `most`: from 1 to 32 ports, a largest frame from 64 to 9,600 octets, and of its wire times:
-- 0 exactly when the port is not below N or the length is not from 64 to the largest frame; any other from 1 to 10,000,000;
-- and on one port, of two lengths from 64 to the largest frame, the longer never has the smaller time
pub record Rules (most : ℕ) (m : Meaning) : Type 0 where
  pub least : 64 ≤ most
  pub greatest : most ≤ 9600
  pub some : 1 ≤ m.ports
  pub few : m.ports ≤ 32
  pub zero : (q l : ℕ) → (m.ports ≤ q) ⊎ ((l < 64) ⊎ (most < l)) → m.time q l ≡ 0
  pub only : (q l : ℕ) → m.time q l ≡ 0 → (m.ports ≤ q) ⊎ ((l < 64) ⊎ (most < l))
  pub bounded : (q l : ℕ) → m.time q l ≤ 10000000
  pub longer : (q l l' : ℕ) → q < m.ports → 64 ≤ l → l ≤ l' → l' ≤ most → m.time q l ≤ m.time q l'
