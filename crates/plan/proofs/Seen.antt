-- The greatest and the least of the numbers of the hops on a port: each hop is within it, and some hop has it.
-- Assumes nothing.
use Rattle.std.proofs.Common.{◌≡◌, ℕ, suc, ◌≤◌, min, max, Bool, true, false, cond, eqb, ◌⊎◌, List, [], ◌∷◌, sym, refl, ◌∙◌, subst, inl, inr, arith}
use native.Mathlib.Decide.{dec_le}
use Rattle.std.proofs.lemmas.Bool.{eq-eqb, eqb-true, cond-true}
use Rattle.network.specs.Flows.{At, here, next, Hop, Flow}
use Rattle.network.proofs.Lists.{Found, At-empty}
use Rattle.planning.proofs.OnPort.{SomeOn, EachOn}
use Rattle.plan.specs.Looks.{of_hops, of_flows}

-- a way to take two numbers together that gives one of them, and to which both stand in an order
pub record Picks (both : ℕ → ℕ → ℕ) (Order : ℕ → ℕ → Type 0) : Type 0 where
  pub one : (i k : ℕ) → Order i (both i k)
  pub other : (i k : ℕ) → Order k (both i k)
  pub through : (i j k : ℕ) → Order i j → Order j k → Order i k
  pub either : (i k : ℕ) → (both i k ≡ i) ⊎ (both i k ≡ k)

pub max_picks : Picks max ◌≤◌
max_picks = record {
  one = λ i k. omega arith;
  other = λ i k. omega arith;
  through = λ i j k low high. omega arith;
  either = λ i k. elim (dec_le i k) [ yes le ↦ inr (omega arith) | no gt ↦ inl (omega arith) ];
}

pub min_picks : Picks min (λ i k. k ≤ i)
min_picks = record {
  one = λ i k. omega arith;
  other = λ i k. omega arith;
  through = λ i j k low high. omega arith;
  either = λ i k. elim (dec_le i k) [ yes le ↦ inl (omega arith) | no gt ↦ inr (omega arith) ];
}

module _ {both : ℕ → ℕ → ℕ} {Order : ℕ → ℕ → Type 0} (picks : Picks both Order) (m q : ℕ) where
  hops-each : (number : Hop → ℕ) {hs : List Hop} {k : ℕ} {h : Hop} → At hs k h → h.port ≡ q → Order (number h) (of_hops both m number q hs)
  hops-each number (here {x = h} {xs = hs}) port =
      subst (λ (n : ℕ). Order n (of_hops both m number q (h ∷ hs))) (cond-true (eqb h.port q) (number h) m (eq-eqb h.port q port))
      (picks.one (cond (eqb h.port q) (number h) m) (of_hops both m number q hs))
  hops-each number (next {x = h} {y = i} {xs = hs} at) port =
      picks.through (number h) (of_hops both m number q hs) (of_hops both m number q (i ∷ hs)) (hops-each number at port) (picks.other (cond (eqb i.port q) (number i) m) (of_hops both m number q hs))

  hops-some : (number : Hop → ℕ) (hs : List Hop) → ¬ (of_hops both m number q hs ≡ m) → Found (λ h. (h.port ≡ q) × (number h ≡ of_hops both m number q hs)) hs
  hops-some number [] some = absurd (some refl)
  hops-some number (h ∷ hs) some = elim (picks.either (cond (eqb h.port q) (number h) m) (of_hops both m number q hs)) [
    | inl first ↦ go (eqb h.port q) refl first
    | inr rest ↦
        let found = hops-some number hs (λ none. some (rest ∙ none)) in
        record { n = suc found.n; x = found.x; at = next found.at; holds = (found.holds.0, found.holds.1 ∙ sym rest) }
  ]
    where
      go : (b : Bool) → eqb h.port q ≡ b → of_hops both m number q (h ∷ hs) ≡ cond b (number h) m → Found (λ h'. (h'.port ≡ q) × (number h' ≡ of_hops both m number q (h ∷ hs))) (h ∷ hs)
      go true on is = record { n = 0; x = h; at = here; holds = (eqb-true h.port q on, sym is) }
      go false off is = absurd (some is)

  -- each hop on the port is within what is taken together
  pub flows-each : (number : Flow → Hop → ℕ) (flows : List Flow) → EachOn flows q (λ f h. Order (number f h) (of_flows both m number q flows))
  flows-each number [] j k f h flow hop port = absurd (At-empty flow)
  flows-each number (g ∷ flows) j k f h here hop port =
      picks.through (number g h) (of_hops both m (number g) q g.hops) (of_flows both m number q (g ∷ flows)) (hops-each (number g) hop port)
      (picks.one (of_hops both m (number g) q g.hops) (of_flows both m number q flows))
  flows-each number (g ∷ flows) (suc j) k f h (next flow) hop port =
      picks.through (number f h) (of_flows both m number q flows) (of_flows both m number q (g ∷ flows)) (flows-each number flows j k f h flow hop port)
      (picks.other (of_hops both m (number g) q g.hops) (of_flows both m number q flows))

  -- and some hop there has it, unless it is what stands for none
  pub flows-some : (number : Flow → Hop → ℕ) (flows : List Flow) → ¬ (of_flows both m number q flows ≡ m) → SomeOn flows q (λ f h. number f h ≡ of_flows both m number q flows)
  flows-some number [] some = absurd (some refl)
  flows-some number (f ∷ flows) some = elim (picks.either (of_hops both m (number f) q f.hops) (of_flows both m number q flows)) [
    | inl first ↦
        let found = hops-some (number f) f.hops (λ none. some (first ∙ none)) in
        record { j = 0; k = found.n; f = f; h = found.x; flow = here; hop = found.at; port = found.holds.0; holds = found.holds.1 ∙ sym first }
    | inr rest ↦
        let on = flows-some number flows (λ none. some (rest ∙ none)) in
        record { j = suc on.j; k = on.k; f = on.f; h = on.h; flow = next on.flow; hop = on.hop; port = on.port; holds = on.holds ∙ sym rest }
  ]
