-- The judgment of a list of records, record by record.
use Rattle.std.proofs.Common.{◌≡◌, ℕ, zero, suc, ◌+◌, ◌<◌, List, [], ◌∷◌, length, get_or, Ok, Err, Result, refl, arith}
use Rattle.fault.specs.declared.kinds.RecordFault.{RecordFault}
use Rattle.sheet.specs.Sheets.{and_then, judge_from}

-- both judgments are without a fault
pub ok-from_and-then :
    (a b : Result (Unit {0}) RecordFault) → and_then a b ≡ Ok tt → (a ≡ Ok tt) × (b ≡ Ok tt)
ok-from_and-then (Ok tt) b e = (refl, e)
ok-from_and-then (Err f) b e = let u : ◌≡◌ {A = ℕ} 0 1 = cc in absurd (omega arith)

module _ {R : Type 0} (judging : ℕ → R → Result (Unit {0}) RecordFault) where
  -- in a list that may be written each record may be
  pub judged-at :
      (xs : List R) (k i : ℕ) (x : R) → x ≡ get_or xs i x → i < length xs → judge_from judging k xs ≡ Ok tt → judging (k + i) x ≡ Ok tt
  judged-at [] k i x is h e = absurd (omega arith)
  judged-at (y ∷ ys) k zero x is h e =
      let at : k + 0 ≡ k = omega arith in
      rw (at, is) (ok-from_and-then (judging k y) (judge_from judging (suc k) ys) e).0
  judged-at (y ∷ ys) k (suc i) x is h e =
      let at : k + suc i ≡ suc k + i = omega arith in
      let inside : i < length ys = omega arith in
      rw at (judged-at ys (suc k) i x is inside (ok-from_and-then (judging k y) (judge_from judging (suc k) ys) e).1)
