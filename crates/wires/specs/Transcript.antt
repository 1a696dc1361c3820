-- What the program prints of its input.
-- Assumes nothing.
use Rattle.std.specs.Prelude.{◌≡◌, ℕ, ◌+◌, ◌<◌, List, [], ◌∷◌, ◌++◌, length}
use Rattle.std.specs.Str.Lines.{IsFirstLine}
use Rattle.line.specs.Fillings.{Coded, Celled}
use Rattle.wires.specs.Answered.{Answered}
use Rattle.wires.specs.Answers.{told}
use Rattle.wires.specs.declared.answer.Answer.{Answer}
use Rattle.wires.specs.declared.lines.Lines.{Lines}

-- ls are the lines of the text bs, in order: each ends at a newline or at the end of the text
abbrev pub Cut : List ℕ → List (List ℕ) → Type 0
Cut bs [] = length bs ≡ 0
Cut bs (l ∷ ls) = (rest : List ℕ) × (0 < length bs) × IsFirstLine bs l rest × Cut rest ls

-- line n of the input, l, is answered at the end of the text
pub record Noted (n : ℕ) (l : List ℕ) (x : Lines) (text : List ℕ) (y : Lines) (longer : List ℕ) : Type 0 where
  pub answer : Answer
  pub answered : Answered n l x answer y
  pub written : longer ≡ text ++ (told answer ++ (10 ∷ []))

-- the text that comes of the lines ls, the first of which has number n, from two lines x: an answer to each, and a newline
abbrev pub Recorded : ℕ → Lines → List (List ℕ) → List ℕ → Type 0
Recorded n x [] text = text ≡ []
Recorded n x (l ∷ ls) text = (a : Answer) × (y : Lines) × (rest : List ℕ) × Answered n l x a y × (text ≡ told a ++ (10 ∷ rest)) × Recorded (n + 1) y ls rest

-- the text that comes of an input: its lines, counted from 1, are answered in order, from two new lines
pub record Transcript (input text : List ℕ) : Type 0 where
  pub start : Lines
  pub new_ethernet : Coded (1 ∷ []) start.ethernet
  pub new_cell : Celled 1 64 1 start.cell
  pub lines : List (List ℕ)
  pub cut : Cut input lines
  pub recorded : Recorded 1 start lines text
