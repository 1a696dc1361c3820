-- A listing, record by record.
use Rattle.std.proofs.Common.{◌≡◌, ℕ, suc, ◌+◌, ◌-◌, ◌<◌, List, [], ◌++◌, Option, Some, None, IsSome, Ok, Result, unwrap_or, sym, ap, ◌∙◌, append_assoc, add-one, arith, rules}
use Rattle.std.specs.Fmt.{AppendsText, with_newline}
use Rattle.fault.specs.declared.kinds.RecordFault.{RecordFault}
use Rattle.records.specs.Listings.{line, one_before, lines_from}

-- a text that is printed with the end of its line
pub appended_line : (o : Option (List ℕ)) (before after : List ℕ) → IsSome o → AppendsText before after (with_newline o) → after ≡ before ++ line (unwrap_or o [])
appended_line None before after is appends = search rules
appended_line (Some t) before after is appends = appends

module _ {R : Type 0} (text : R → List ℕ) (at : ℕ → Result R RecordFault) (left : List ℕ) where
  -- record i, then the rest
  lines_step :
      (n i : ℕ) → i < n → lines_from text at left (n - i) i ≡ one_before text (at i) (lines_from text at left (n - (i + 1)) (i + 1))
  lines_step n i h =
      let e : n - i ≡ suc (n - (i + 1)) = omega arith in
      ap (λ (m : ℕ). lines_from text at left m i) e
      ∙ ap (λ (m : ℕ). one_before text (at i) (lines_from text at left (n - (i + 1)) m)) (sym (add-one i))

  -- one accepted record more is listed
  pub lines_more :
      (n i : ℕ) (before after whole : List ℕ) {x : R}
      → i < n → Ok x ≡ at i → after ≡ before ++ line (text x) → before ++ lines_from text at left (n - i) i ≡ whole
      → after ++ lines_from text at left (n - (i + 1)) (i + 1) ≡ whole
  lines_more n i before after whole {x = x} h is e sofar =
      let rest : List ℕ = lines_from text at left (n - (i + 1)) (i + 1) in
      ap (λ (t : List ℕ). t ++ rest) e
      ∙ append_assoc before (line (text x)) rest
      ∙ ap (λ (r : Result R RecordFault). before ++ one_before text r rest) is
      ∙ ap (λ (t : List ℕ). before ++ t) (sym (lines_step n i h))
      ∙ sofar
