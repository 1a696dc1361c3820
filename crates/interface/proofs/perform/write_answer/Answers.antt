-- The 16 octets behind those of the answers before are those of the answer.
use Rattle.std.proofs.Common.{◌≡◌, ℕ, ◌+◌, ◌-◌, ◌*◌, ◌++◌, take, drop, ap, ◌∙◌, arith}
use Rattle.std.proofs.lemmas.List.{drop-drop}
use Rattle.interface.proofs.perform.write_answer.Goals as goal

pub returns : goal.returns
returns c =
    let s = c.args.answers.now in
    let at = 16 * c.args.index in
    let size : at + 16 - at ≡ 16 = omega arith in
    let behind = ap (λ (n : ℕ). drop n (drop at s)) size ∙ drop-drop 16 at s in
    let octets = c.copy_from_slice.ensures.after ∙ c.answer_octets.ensures.value in
    record { after = λ i. take at s ++ (octets i ++ behind i) }
