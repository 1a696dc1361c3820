-- Pairs of related flows in rows, after one row has changed.
-- Assumes nothing.
use Rattle.std.proofs.Common.{◌≡◌, ℕ, ◌<◌, List, length, get_or, set, sym, ◌∙◌, subst, arith, get_or-set_other, get_or-set_same}
use native.Mathlib.Decide.{dec_lt}
use Rattle.network.specs.Flows.{Flow}
use Rattle.plan.specs.declared.row.Row.{Row}
use Rattle.plan.specs.declared.row.State.{State}
use Rattle.plan.specs.declared.row.State.TheVariants.{Free, Held}
use Rattle.plan.specs.Plans.{Two, Namesakes}
use Rattle.plan.specs.Rows.{flow, none, Holds}

not_both : {state : State} → state ≡ Free → state ≡ Held → ⊥
not_both free held = let never : ◌≡◌ {A = ℕ} 0 1 = cc in omega arith

module _ (rows : List Row) (k : ℕ) (new : Row) (long : length rows ≡ 64) (below : k < 64) where
  at-k : get_or (set rows k new) k none ≡ new
  at-k = get_or-set_same rows k new none (omega arith)

  off-k : (j : ℕ) → (j ≡ k → ⊥) → get_or (set rows k new) j none ≡ get_or rows j none
  off-k j differ = get_or-set_other rows k j new none differ

  at_row : (P : Row → Type 0) (j : ℕ) → j ≡ k → P (get_or (set rows k new) j none) → P new
  at_row P j same p = subst P at-k (subst (λ (x : ℕ). P (get_or (set rows k new) x none)) same p)

module _ (R : Flow → Flow → Type 0) (rows : List Row) (k : ℕ) (new : Row) (long : length rows ≡ 64) (below : k < 64) where
  -- a pair of rows that did not change
  two-kept : (two : Two R (set rows k new)) → (two.i ≡ k → ⊥) → (two.j ≡ k → ⊥) → Two R rows
  two-kept two i-differs j-differs = record {
    i = two.i;
    j = two.j;
    less = two.less;
    row = two.row;
    one = subst (λ (r : Row). r.state ≡ Held) (off-k rows k new long below two.i i-differs) two.one;
    other = subst (λ (r : Row). r.state ≡ Held) (off-k rows k new long below two.j j-differs) two.other;
    related = subst (λ (r : Row). R (flow (get_or rows two.i none)) (flow r)) (off-k rows k new long below two.j j-differs)
        (subst (λ (r : Row). R (flow r) (flow (get_or (set rows k new) two.j none))) (off-k rows k new long below two.i i-differs) two.related);
  }

  -- a row that is free is one of no pair
  pub two_freed : new.state ≡ Free → Two R (set rows k new) → Two R rows
  two_freed free two = two-kept two
      (λ same. not_both free (at_row rows k new long below (λ r. r.state ≡ Held) two.i same two.one))
      (λ same. not_both free (at_row rows k new long below (λ r. r.state ≡ Held) two.j same two.other))

  -- a row that holds a flow related to none is one of no pair
  pub two-added : ((j : ℕ) → j < 64 → (get_or rows j none).state ≡ Held → R (flow new) (flow (get_or rows j none)) → ⊥) →
      ((j : ℕ) → j < 64 → (get_or rows j none).state ≡ Held → R (flow (get_or rows j none)) (flow new) → ⊥) → Two R (set rows k new) → Two R rows
  two-added after before two = two-kept two
      (λ same.
      let less = two.less in
      let off = off-k rows k new long below two.j (λ e. omega arith) in
      after two.j two.row (subst (λ (r : Row). r.state ≡ Held) off two.other)
      (subst (λ (r : Row). R (flow new) (flow r)) off (at_row rows k new long below (λ r. R (flow r) (flow (get_or (set rows k new) two.j none))) two.i same two.related)))
      (λ same.
      let less = two.less in
      let row = two.row in
      let off = off-k rows k new long below two.i (λ e. omega arith) in
      before two.i (omega arith) (subst (λ (r : Row). r.state ≡ Held) off two.one)
      (subst (λ (r : Row). R (flow r) (flow new)) off (at_row rows k new long below (λ r. R (flow (get_or (set rows k new) two.i none)) (flow r)) two.j same two.related)))

-- the first row that holds number n is the only one
pub only_row : (n : ℕ) (rows : List Row) (k : ℕ) → length rows ≡ 64 → (Two Namesakes rows → ⊥) → k < length rows → Holds n (get_or rows k none) →
    ((j : ℕ) → j < k → Holds n (get_or rows j none) → ⊥) → (j : ℕ) → j < length rows → Holds n (get_or rows j none) → j ≡ k
only_row n rows k long numbers below holds first j within found = elim (dec_lt j k) [
  | yes before ↦ absurd (first j before found)
  | no not-before ↦ elim (dec_lt k j) [
    | yes after ↦ absurd (numbers (record {
      i = k;
      j = j;
      less = after;
      row = omega arith;
      one = holds.0;
      other = found.0;
      related = holds.1 ∙ sym found.1;
    }))
    | no not_after ↦ omega arith
  ]
]
