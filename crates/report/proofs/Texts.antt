-- A text that is written piece by piece.
-- Assumes nothing.
use Rattle.std.proofs.Common.{◌≡◌, ℕ, List, [], ◌++◌, sym, ap, ◌∙◌, append_assoc, append-nil}
use Rattle.std.specs.Fmt.{HasWritten}
use Rattle.std.proofs.Output.{has_written_append, has_written_of_eq}
use Rattle.std.specs.declared.fmt.Formatter.{Formatter}

module _ {W : Type 0} (took : W → List ℕ → W → Type 0) (f : Formatter W) (whole : List ℕ) where
  -- from f to g the whole was written but for the rest
  abbrev pub WrittenBut : List ℕ → Formatter W → Type 0
  WrittenBut rest g = (front : List ℕ) × HasWritten took f front g × (front ++ rest ≡ whole)

  -- with one piece more, less is left
  pub written_more : (piece rest rest' : List ℕ) (g h : Formatter W) → rest ≡ piece ++ rest' → WrittenBut rest g → HasWritten took g piece h → WrittenBut rest' h
  written_more piece rest rest' g h next before wrote = (
    before.0 ++ piece,
    has_written_append took f before.0 g piece h before.1 wrote,
    append_assoc before.0 piece rest' ∙ ap (λ (t : List ℕ). before.0 ++ t) (sym next) ∙ before.2,
  )

  -- with nothing left, it is the whole
  pub written_whole : (rest : List ℕ) (g : Formatter W) → rest ≡ [] → WrittenBut rest g → HasWritten took f whole g
  written_whole rest g none before =
      has_written_of_eq took f before.0 whole g (sym (append-nil before.0) ∙ ap (λ (t : List ℕ). before.0 ++ t) (sym none) ∙ before.2) before.1
