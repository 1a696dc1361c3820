-- What is seen of the hops from an index on, and of the rows from an index on.
-- Assumes nothing.
use Rattle.std.proofs.Common.{◌≡◌, ℕ, ◌+◌, ◌<◌, ◌≤◌, min, cond, eqb, List, [], ◌∷◌, map, length, get_or, drop, sym, refl, ap, ◌∙◌, arith}
use Rattle.std.proofs.lemmas.List.{at_drop_more, at_drop_all}
use Rattle.network.specs.Flows as network
use Rattle.network.specs.Flows.{Flow}
use Rattle.plan.specs.declared.row.Hop.{Hop}
use Rattle.plan.specs.declared.row.Row.{Row}
use Rattle.plan.specs.declared.row.State.{State}
use Rattle.plan.specs.declared.row.State.TheVariants.{Free, Held}
use Rattle.plan.specs.Looks.{of_hops, of_flows}
use Rattle.plan.specs.Rows.{hop, flow, flows, blank}

-- the least is at most what it is where there is no hop
pub of-hops-≤ : (m : ℕ) (number : network.Hop → ℕ) (q : ℕ) (hs : List network.Hop) → of_hops min m number q hs ≤ m
of-hops-≤ m number q [] = omega arith
of-hops-≤ m number q (h ∷ hs) = let rest = of-hops-≤ m number q hs in omega arith

pub of-flows-≤ : (m : ℕ) (number : Flow → network.Hop → ℕ) (q : ℕ) (fs : List Flow) → of_flows min m number q fs ≤ m
of-flows-≤ m number q [] = omega arith
of-flows-≤ m number q (f ∷ fs) = let rest = of-flows-≤ m number q fs in omega arith

module _ (both : ℕ → ℕ → ℕ) (m : ℕ) (number : network.Hop → ℕ) (q : ℕ) (hops : List Hop) where
  -- of the hops from k on
  abbrev pub hops-from : ℕ → ℕ
  hops-from k = of_hops both m number q (map hop (drop k hops))

  pub hops_more : (k : ℕ) → k < length hops → hops-from k ≡ both (cond (eqb (get_or hops k blank).port q) (number (hop (get_or hops k blank))) m) (hops-from (k + 1))
  hops_more k within = at_drop_more (λ xs. of_hops both m number q (map hop xs)) hops k blank within

  pub hops-all : (k : ℕ) → length hops ≤ k → hops-from k ≡ m
  hops-all k past = at_drop_all (λ xs. of_hops both m number q (map hop xs)) hops k past

module _ (both : ℕ → ℕ → ℕ) (m : ℕ) (number : Flow → network.Hop → ℕ) (q : ℕ) (rows : List Row) where
  -- of the rows from k on
  abbrev pub rows-from : ℕ → ℕ
  rows-from k = of_flows both m number q (flows (drop k rows))

  -- by the row that is read at k
  pub rows-held : (k : ℕ) (row : Row) → k < length rows → row ≡ get_or rows k row → row.state ≡ Held →
      rows-from k ≡ both (of_hops both m (number (flow row)) q (flow row).hops) (rows-from (k + 1))
  rows-held k row within is held =
      at_drop_more (λ rs. of_flows both m number q (flows rs)) rows k row within ∙
      ap (λ (r : Row). of_flows both m number q (flows (r ∷ drop (k + 1) rows))) (sym is) ∙
      ap (λ (s : State). of_flows both m number q (elim s [ Free ↦ flows (drop (k + 1) rows) | Held ↦ flow row ∷ flows (drop (k + 1) rows) ])) held

  pub rows-free : (k : ℕ) (row : Row) → k < length rows → row ≡ get_or rows k row → (row.state ≡ Held → ⊥) → rows-from k ≡ rows-from (k + 1)
  rows-free k row within is free =
      at_drop_more (λ rs. of_flows both m number q (flows rs)) rows k row within ∙
      ap (λ (r : Row). of_flows both m number q (flows (r ∷ drop (k + 1) rows))) (sym is) ∙ go row.state free
    where
      go : (s : State) → (s ≡ Held → ⊥) →
          of_flows both m number q (elim s [ Free ↦ flows (drop (k + 1) rows) | Held ↦ flow row ∷ flows (drop (k + 1) rows) ]) ≡ rows-from (k + 1)
      go Free free = refl
      go Held free = absurd (free refl)

  pub rows_all : (k : ℕ) → length rows ≤ k → rows-from k ≡ m
  rows_all k past = at_drop_all (λ rs. of_flows both m number q (flows rs)) rows k past
