-- The fields of a list of octets. Bits are counted from 0 at the most significant bit of the first octet.
-- Assumes nothing.
use Rattle.std.specs.Prelude.{ℕ, zero, suc, ◌+◌, ◌-◌, ◌*◌, ◌/◌, ◌%◌, ◌^◌, ◌<◌, List, [], ◌∷◌, length, slice_index}

-- every element is an octet
abbrev pub Octets : List ℕ → Type 0
Octets s = (i : ℕ) → slice_index s i < 256

-- the octets as one number, most significant octet first
abbrev pub number : List ℕ → ℕ
number [] = 0
number (x ∷ s) = x * 2 ^ (8 * length s) + number s

-- the last z octets of a number, most significant octet first
abbrev pub octets : ℕ → ℕ → List ℕ
octets zero m = []
octets (suc z) m = m / 2 ^ (8 * z) % 256 ∷ octets z m

-- the field of n bits from bit b on, of a record of z octets
abbrev pub field : ℕ → ℕ → ℕ → List ℕ → ℕ
field z b n s = number s / 2 ^ (8 * z - b - n) % 2 ^ n

-- a field to be written: its bits and its value
pub record Part : Type 0 where
  pub width : ℕ
  pub value : ℕ

abbrev pub part : ℕ → ℕ → Part
part n v = record { width = n; value = v }

-- how many bits a list of fields has
abbrev pub bits : List Part → ℕ
bits [] = 0
bits (f ∷ fs) = f.width + bits fs

-- the number whose fields, from the most significant one on, are the given ones
abbrev pub packed : List Part → ℕ
packed [] = 0
packed (f ∷ fs) = f.value * 2 ^ bits fs + packed fs

-- each value fits its bits
abbrev pub Fit : List Part → Type 0
Fit [] = Unit {0}
Fit (f ∷ fs) = (f.value < 2 ^ f.width) × Fit fs
