-- The total time of a stored flow, and the flowspan row by row.
-- Assumes nothing.
use Rattle.std.specs.Prelude.{None, Option, Some, unwrap_or}
use Rattle.std.specs.Option.{option_map}
use Rattle.std.specs.List.{fold, reduce, filter}
use Rattle.std.proofs.Common.{◌≡◌, ℕ, Bool, true, false, cond, zero, suc, ◌+◌, ◌<◌, ◌≤◌, max, List, [], ◌∷◌, map, length, get_or, take, sym, refl, ap, ◌∙◌, arith, length-take}
use lib.ListN.{length-map}
use Rattle.std.proofs.lemmas.List.{get_or-map, get_or-take, get_or_past}
use Rattle.network.specs.Flows.{Network, arrival, total}
use Rattle.planning.specs.Offers.{flowspan}
use Rattle.planning.specs.Setups as planning
use Rattle.plan.specs.declared.row.Hop.{Hop}
use Rattle.plan.specs.declared.row.Row.{Row}
use Rattle.plan.specs.declared.row.State.{State}
use Rattle.plan.specs.declared.row.State.TheVariants.{Free, Held}
use Rattle.plan.specs.declared.setup.Port.{Port}
use Rattle.plan.specs.Ports as stored
use Rattle.plan.specs.Rows.{hop, flow, flows}

-- a port below the count is the one that is stored
pub port-stored : (ports : List Port) (n q : ℕ) → n ≤ length ports → q < n → get_or (map stored.port (take n ports)) q planning.blank ≡ stored.port (get_or ports q stored.blank)
port-stored ports n q fits below =
    get_or-map stored.port (take n ports) q stored.blank planning.blank (simp length-take (omega arith))
    ∙ ap stored.port (get_or-take n ports q stored.blank below)

-- any other is not there
pub port_absent : (ports : List Port) (n q : ℕ) → n ≤ q → get_or (map stored.port (take n ports)) q planning.blank ≡ planning.blank
port_absent ports n q past = get_or_past (map stored.port (take n ports)) q planning.blank (simp (length-map, length-take) (omega arith))

-- the total time is that of the last hop
pub total-last : (net : Network) (hops : List Hop) (n : ℕ) (last : Hop) → n + 1 ≡ length hops → last ≡ get_or hops n last → total net (map hop hops) ≡ last.offset + arrival net (hop last)
total-last net [] n last long is = absurd (omega arith)
total-last net (h ∷ []) zero last long is = ap (λ (x : Hop). x.offset + arrival net (hop x)) (sym is)
total-last net (h ∷ []) (suc n) last long is = absurd (omega arith)
total-last net (h ∷ i ∷ hops) zero last long is = absurd (omega arith)
total-last net (h ∷ i ∷ hops) (suc n) last long is = total-last net (i ∷ hops) n last (omega arith) is

-- whether a row holds a flow
abbrev pub is_held : Row → Bool
is_held r = elim r.state [ Free ↦ false | Held ↦ true ]

-- what a test for it answers
pub held-tested : (r : Row) (b : Bool) → (b ≡ true → r.state ≡ Held) → (b ≡ false → r.state ≡ Held → ⊥) → b ≡ is_held r
held-tested r b passes fails = go r.state b passes fails
  where
    go : (state : State) (b : Bool) → (b ≡ true → state ≡ Held) → (b ≡ false → state ≡ Held → ⊥) → b ≡ elim state [ Free ↦ false | Held ↦ true ]
    go Free true passes fails = let other = passes refl in let never : ◌≡◌ {A = ℕ} 0 1 = cc in absurd (omega arith)
    go Free false passes fails = refl
    go Held true passes fails = refl
    go Held false passes fails = absurd (fails refl refl)

-- when the flow of a row has arrived
abbrev pub end : Network → Row → ℕ
end net r = r.start + total net (flow r).hops

fold_max : (a : ℕ) (xs : List ℕ) → fold max a xs ≡ max a (unwrap_or (reduce max xs) 0)
fold_max a [] = omega arith
fold_max a (x ∷ xs) =
    let here = fold_max (max a x) xs in
    let rest = fold_max x xs in
    omega arith

ends-flowspan : (net : Network) (rows : List Row) → unwrap_or (reduce max (map (end net) (filter is_held rows))) 0 ≡ flowspan net (flows rows)
ends-flowspan net [] = refl
ends-flowspan net (r ∷ rows) = go r.state (ends-flowspan net rows)
  where
    go : (state : State) → unwrap_or (reduce max (map (end net) (filter is_held rows))) 0 ≡ flowspan net (flows rows) →
        unwrap_or (reduce max (map (end net) (cond (elim state [ Free ↦ false | Held ↦ true ]) (r ∷ filter is_held rows) (filter is_held rows)))) 0
        ≡ flowspan net (elim state [ Free ↦ flows rows | Held ↦ flow r ∷ flows rows ])
    go Free rest = rest
    go Held rest = let most = fold_max (end net r) (map (end net) (filter is_held rows)) in omega arith

-- the greatest of these ends is the flowspan
pub greatest-flowspan : (net : Network) (rows : List Row) (r : Option ℕ) → option_map (λ (n : ℕ). n) r ≡ reduce max (map (end net) (filter is_held rows)) → unwrap_or r 0 ≡ flowspan net (flows rows)
greatest-flowspan net rows r greatest = mapped r ∙ ap (λ (o : Option ℕ). unwrap_or o 0) greatest ∙ ends-flowspan net rows
  where
    mapped : (o : Option ℕ) → unwrap_or o 0 ≡ unwrap_or (option_map (λ (n : ℕ). n) o) 0
    mapped None = refl
    mapped (Some n) = refl
