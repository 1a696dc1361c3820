-- Records placed in a buffer one behind the other.
use Rattle.std.proofs.Common.{◌≡◌, ℕ, ◌+◌, ◌*◌, ◌<◌, List, [], ◌∷◌, ◌++◌, length, get_or, take, drop, sym, ap, ◌∙◌, arith, length-append, length-take}
use Rattle.std.proofs.lemmas.List.{append-nil, append_assoc, take_at, drop_at, drop-drop, take_more}
use Rattle.sheet.specs.Sheets.{written_sheet}

module _ {R : Type 0} (z : ℕ) (written : R → List ℕ) (whole : (x : R) → length (written x) ≡ z) where
  pub length-written_sheet : (xs : List R) → length (written_sheet written xs) ≡ length xs * z
  length-written_sheet [] = omega arith
  length-written_sheet (x ∷ xs) =
      let rest = length-written_sheet xs in
      let here = whole x in
      let both = length-append (written x) (written_sheet written xs) in
      omega arith

  written_sheet_push : (xs : List R) (x : R) → written_sheet written (xs ++ x ∷ []) ≡ written_sheet written xs ++ written x
  written_sheet_push [] x = append-nil (written x)
  written_sheet_push (y ∷ ys) x =
      ap (λ (l : List ℕ). written y ++ l) (written_sheet_push ys x) ∙ sym (append_assoc (written y) (written_sheet written ys) (written x))

  -- one record more at its place
  pub place_more :
      (xs : List R) (i : ℕ) (x : R) (buffer old new : List ℕ) → x ≡ get_or xs i x → i < length xs
      → buffer ≡ written_sheet written (take i xs) ++ drop (i * z) old
      → new ≡ take (i * z) buffer ++ (written x ++ drop (i * z + z) buffer)
      → new ≡ written_sheet written (take (i + 1) xs) ++ drop ((i + 1) * z) old
  place_more xs i x buffer old new is h before e =
      e
      ∙ (λ j. front j ++ (written x ++ back j))
      ∙ sym (append_assoc (written_sheet written (take i xs)) (written x) (drop (i * z + z) old))
      ∙ (λ j. more j ++ drop (next j) old)
    where
      long : length (written_sheet written (take i xs)) ≡ i * z
      long =
          let l = length-written_sheet (take i xs) in
          let t : length (take i xs) ≡ i = simp length-take (omega arith) in
          l ∙ ap (λ (n : ℕ). n * z) t

      front : take (i * z) buffer ≡ written_sheet written (take i xs)
      front = ap (take (i * z)) before ∙ take_at (written_sheet written (take i xs)) (drop (i * z) old) (i * z) long

      back : drop (i * z + z) buffer ≡ drop (i * z + z) old
      back =
          sym (drop-drop z (i * z) buffer)
          ∙ ap (λ (l : List ℕ). drop z (drop (i * z) l)) before
          ∙ ap (drop z) (drop_at (written_sheet written (take i xs)) (drop (i * z) old) (i * z) long)
          ∙ drop-drop z (i * z) old

      more : written_sheet written (take i xs) ++ written x ≡ written_sheet written (take (i + 1) xs)
      more =
          sym (written_sheet_push (take i xs) x)
          ∙ ap (λ y. written_sheet written (take i xs ++ y ∷ [])) is
          ∙ ap (written_sheet written) (sym (take_more xs i x h))

      next : i * z + z ≡ (i + 1) * z
      next = omega arith
