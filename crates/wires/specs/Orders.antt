-- Which words ask for which command.
-- Assumes nothing.
use Rattle.std.specs.Prelude.{◌≡◌, ℕ, ◌+◌, ◌^◌, ◌<◌, min, List, [], length, Some, None, vec_items, codes, Option, slice_index, slice_index_or, map}
use Rattle.std.specs.Borrow.{Bor}
use Rattle.std.specs.Str.Parse.{IsNumeral, digits_value, without_leading_plus}
use Rattle.wires.specs.Answers.{name}
use Rattle.wires.specs.declared.command.Command.{Command}
use Rattle.wires.specs.declared.command.Command.TheVariants.{FillEthernet, FillCell, WireTime}
use Rattle.wires.specs.declared.command.Kind.{Kind}

-- the octets of each word of a slice
abbrev pub texts : List (Bor (List ℕ)) → List (List ℕ)
texts ws = map (λ word. word.now) ws

-- a word writes the number x, below 2^64, in decimal digits, perhaps after a plus sign
pub record IsNumber (word : List ℕ) (x : ℕ) : Type 0 where
  pub digits : IsNumeral 10 (without_leading_plus word)
  pub fits : x < 2 ^ 64
  pub value : x ≡ digits_value 10 (without_leading_plus word)

-- n is the number that a word writes, or `most` where it is above
pub record Number (most : ℕ) (word : List ℕ) (n : ℕ) : Type 0 where
  pub written : ℕ
  pub number : IsNumber word written
  pub least : n ≡ min written most

-- "ethernet", and then a rate code in each word
pub record EthernetWords (ws : List (List ℕ)) (cs : List ℕ) : Type 0 where
  pub first : slice_index_or ws 0 [] ≡ codes "ethernet"
  pub many : length cs + 1 ≡ length ws
  pub each : (k : ℕ) → k < length cs → Number 255 (slice_index_or ws (k + 1) []) (slice_index cs k)

-- "cell", the number of ports, the octets of a cell and its nanoseconds
pub record CellWords (ws : List (List ℕ)) (N z w : ℕ) : Type 0 where
  pub first : slice_index_or ws 0 [] ≡ codes "cell"
  pub many : length ws ≡ 4
  pub ports : Number 255 (slice_index_or ws 1 []) N
  pub size : Number 65535 (slice_index_or ws 2 []) z
  pub time : Number 4294967295 (slice_index_or ws 3 []) w

-- "time", the kind of line, a port and a length
pub record TimeWords (ws : List (List ℕ)) (k : Kind) (q l : ℕ) : Type 0 where
  pub first : slice_index_or ws 0 [] ≡ codes "time"
  pub many : length ws ≡ 4
  pub kind : slice_index_or ws 1 [] ≡ name k
  pub port : Number 255 (slice_index_or ws 2 []) q
  pub long : Number 65535 (slice_index_or ws 3 []) l

-- the words of each command
abbrev pub Asks : List (List ℕ) → Command → Type 0
Asks ws (FillEthernet v) = EthernetWords ws (vec_items v)
Asks ws (FillCell N z w) = CellWords ws N z w
Asks ws (WireTime k q l) = TimeWords ws k q l

-- the command that the words ask for, or none where they ask for no command
abbrev pub Understood : List (List ℕ) → Option Command → Type 0
Understood ws (Some c) = Asks ws c
Understood ws None = (c : Command) → Asks ws c → ⊥
