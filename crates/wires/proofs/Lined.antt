-- The words of a line, and one line more of the input.
-- Assumes nothing.
use Rattle.std.proofs.Common.{◌≡◌, ℕ, ◌+◌, ◌<◌, List, [], ◌∷◌, ◌++◌, length, sym, refl, ap, Bor, None, Ok, Err, Result, Vec, vec_items, IfOk, ◌∙◌, subst, append_assoc}
use Rattle.std.specs.Str.Lines.{IsFirstLine}
use Rattle.std.specs.Char.{is_not_whitespace}
use Rattle.std.specs.Str.{NoCharPasses}
use Rattle.wires.specs.Answers.{told}
use Rattle.wires.specs.Transcript.{Cut, Noted, Recorded, Transcript}
use Rattle.wires.specs.Words.{Words}
use Rattle.wires.specs.Orders.{texts}
use Rattle.std.specs.Str.Iter.{split_whitespace_rest, split_whitespace_steps}
use Rattle.std.specs.declared.str.SplitWhitespace.{SplitWhitespace}
use Rattle.std.proofs.lemmas.Iterator.{IsCollectResult}
use Rattle.std.specs.Iterator.{Yields}
use Rattle.wires.specs.declared.lines.Lines.{Lines}

-- the items of `split_whitespace` are the words of its text
pub words_from_yields : (xs : List (Bor (List ℕ))) (s t u : SplitWhitespace) → Yields split_whitespace_steps s xs t → split_whitespace_steps t None u → Words (split_whitespace_rest s) (texts xs)
words_from_yields [] s t u same none = subst (λ (i : SplitWhitespace). NoCharPasses is_not_whitespace (split_whitespace_rest i)) (sym same) none.1
words_from_yields (x ∷ xs) s t u (j, step, more) none =
    (split_whitespace_rest j, record { gap = step.0; cut = step.1; some = step.2; blank = step.3; solid = step.4; ends = step.5 }, words_from_yields xs j t u more none)

pub words_from_collect : {Z E : Type 0} (r : Result (Vec (Bor (List ℕ)) Z) E) (s : SplitWhitespace) → IsCollectResult split_whitespace_steps s r → IfOk r (λ v. Words (split_whitespace_rest s) (texts (vec_items v)))
words_from_collect (Ok v) s ran =
    let drains = ran.1 in
    let items : vec_items v ≡ ran.0 = ran.2.0 in
    rw items (words_from_yields ran.0 s drains.0 (drains.2 tt).0 drains.1 (drains.2 tt).1)
words_from_collect (Err e) s ran = tt

-- whatever comes of the rest, the text so far and then that is what comes of the whole input
abbrev pub Follows : List ℕ → List ℕ → ℕ → Lines → List ℕ → Type 0
Follows input rest n x text = (ls : List (List ℕ)) (more : List ℕ) → Cut rest ls → Recorded n x ls more → Transcript input (text ++ more)

pub follows_more : (input rest rest' l text longer : List ℕ) (n : ℕ) (x y : Lines) → Follows input rest n x text → 0 < length rest → IsFirstLine rest l rest' → Noted n l x text y longer → Follows input rest' (n + 1) y longer
follows_more input rest rest' l text longer n x y old some line noted ls more cut recorded =
    let a = noted.answer in
    let joined =
    ap (λ (t : List ℕ). t ++ more) noted.written ∙ append_assoc text (told a ++ (10 ∷ [])) more ∙ ap (λ (t : List ℕ). text ++ t) (append_assoc (told a) (10 ∷ []) more) in
    subst (Transcript input) (sym joined) (old (l ∷ ls) (told a ++ (10 ∷ more)) (rest', some, line, cut) (a, y, more, noted.answered, refl, recorded))
