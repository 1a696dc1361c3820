-- The codes of the words read so far, and words that ask for no command.
-- Assumes nothing.
use Rattle.std.proofs.Common.{◌≡◌, ℕ, ◌<◌, List, [], ◌∷◌, ◌++◌, length, get_or, None, codes, arith}
use native.Mathlib.Decide.{dec_lt}
use native.Mathlib.Numerals.{unary_clauses}
use Rattle.std.proofs.lemmas.List.{get_or_append_left, get_or_push, length_push, length-map, get_or-map}
use Rattle.wires.specs.Orders.{Number, CellWords, TimeWords, Understood}
use Rattle.wires.specs.declared.command.Command.TheVariants.{FillEthernet, FillCell, WireTime}
use Rattle.wires.specs.declared.command.Kind.{Kind}

-- the first words write the codes so far
abbrev pub Sofar : List (List ℕ) → List ℕ → Type 0
Sofar ws cs = (j : ℕ) → j < length cs → Number 255 (get_or ws j []) (get_or cs j 0)

pub sofar_push : (ws : List (List ℕ)) (cs : List ℕ) (n k : ℕ) → Sofar ws cs → length cs ≡ k → Number 255 (get_or ws k []) n → Sofar ws (cs ++ (n ∷ []))
sofar_push ws cs n k old next new j lt =
    elim (dec_lt j (length cs)) [
      | yes below ↦ rw (get_or_append_left cs (n ∷ []) 0 j below) (old j below)
      | no above ↦
          let here : length cs ≡ j = omega (arith, length_push cs n) in
          let at : j ≡ k = omega arith in
          rw (get_or_push cs n 0 j here, at) new
    ]

-- where the first word is known, only one command can be asked for
module _ (ws : List (List ℕ)) where
  pub no_ethernet : ((cs : List ℕ) → length cs ≡ length ws → Sofar ws cs → ⊥) → Understood (codes "ethernet" ∷ ws) None
  no_ethernet wrong (FillEthernet v) h = wrong _ (omega (arith, h.many)) (λ j lt. let number = h.each j lt in simp unary_clauses at number)
  no_ethernet wrong (FillCell a b c) h = grind arith
  no_ethernet wrong (WireTime k q l) h = grind arith

  pub no_cell : ((N z w : ℕ) → CellWords (codes "cell" ∷ ws) N z w → ⊥) → Understood (codes "cell" ∷ ws) None
  no_cell wrong (FillEthernet v) h = grind arith
  no_cell wrong (FillCell a b c) h = wrong a b c h
  no_cell wrong (WireTime k q l) h = grind arith

  pub no_time : ((k : Kind) (q l : ℕ) → TimeWords (codes "time" ∷ ws) k q l → ⊥) → Understood (codes "time" ∷ ws) None
  no_time wrong (FillEthernet v) h = grind arith
  no_time wrong (FillCell a b c) h = grind arith
  no_time wrong (WireTime k q l) h = wrong k q l h

-- for `grind`: the words of a slice, and what another first word or another count of words comes to
pub ruleset asked = (length-map, get_or-map, no_cell, no_time)
