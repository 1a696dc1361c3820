-- It is decided whether two flows overlap, and so whether some two of the flows do, since it is decided whether two repeating spans share an instant.
-- Assumes nothing.
use mathlib.Core.Path.{◌≡◌, refl, sym, ap}
use mathlib.Core.List.{List, [], ◌∷◌}
use mathlib.Core.Logic.{◌⊎◌, inl, inr}
use Prim.Native.Nat.{ℕ, zero, suc}
use native.Mathlib.Decide.{ℕ_discrete}
use native.Mathlib.Omega.{arith}
use Rattle.spans.specs.Spans.{Share}
use Rattle.spans.proofs.Formula.{decided_share}
use Rattle.network.specs.Flows.{At, here, next, Hop, Flow, Network, Well}
use Rattle.network.specs.Overlap.{first, Overlap, Apart, Clash}
use Rattle.network.proofs.Lists.{At-empty, Found, decided_found}

-- two hops of two flows are on one port, and spans of the flows share an instant there
abbrev Meet : Flow → Flow → Hop → Hop → Type 0
Meet f g h i = (h.port ≡ i.port) × Share (first f h) f.period h.wire (first g i) g.period i.wire

-- if f overlaps g, then g overlaps f
pub overlap-sym : {f g : Flow} → Overlap f g → Overlap g f
overlap-sym overlap =
    let share = overlap.share in
    record {
      j = overlap.k;
      k = overlap.j;
      h = overlap.i;
      i = overlap.h;
      one = overlap.other;
      other = overlap.one;
      port = sym overlap.port;
      share = record { a = share.b; b = share.a; t = share.t; one = share.other; other = share.one };
    }

-- flows that do not overlap, and one before them that overlaps none of them
apart_more : {f : Flow} {flows : List Flow} → ¬ Found (λ g. Overlap f g) flows → Apart flows → Apart (f ∷ flows)
apart_more none apart zero zero g g' here here overlap = refl
apart_more none apart zero (suc j) g g' here (next flow) overlap = absurd (none (record { n = j; x = g'; at = flow; holds = overlap }))
apart_more none apart (suc i) zero g g' (next flow) here overlap = absurd (none (record { n = i; x = g; at = flow; holds = overlap-sym overlap }))
apart_more none apart (suc i) (suc j) g g' (next flow) (next flow') overlap = ap suc (apart i j g g' flow flow' overlap)

module _ {net : Network} where
  -- it is decided whether two hops meet
  decided_meet : {f g : Flow} {k k' : ℕ} {h i : Hop} → Well net f → Well net g → At f.hops k h → At g.hops k' i → Dec (Meet f g h i)
  decided_meet {f} {g} {k} {k'} {h} {i} well well' hop hop' =
      let carried = well.carried k h hop in
      let carried' = well'.carried k' i hop' in
      elim (ℕ_discrete h.port i.port) [
        | no differ ↦ no (λ meet. differ meet.0)
        | yes port ↦ elim (decided_share (first f h) f.period h.wire (first g i) g.period i.wire (omega arith) (omega arith) carried.some carried'.some) [
          | no never ↦ no (λ meet. never meet.1)
          | yes share ↦ yes (port, share)
        ]
      ]

  -- it is decided whether two well-formed flows overlap
  pub decided_overlap : (f g : Flow) → Well net f → Well net g → Dec (Overlap f g)
  decided_overlap f g well well' = elim (decided_found (λ h. Found (λ i. Meet f g h i) g.hops) f.hops (λ k h hop. decided_found (λ i. Meet f g h i) g.hops (λ k' i hop'. decided_meet well well' hop hop'))) [
    | yes found ↦
        let found' = found.holds in
        yes (record { j = found.n; k = found'.n; h = found.x; i = found'.x; one = found.at; other = found'.at; port = found'.holds.0; share = found'.holds.1 })
    | no none ↦ no (λ overlap. none (record {
      n = overlap.j;
      x = overlap.h;
      at = overlap.one;
      holds = record { n = overlap.k; x = overlap.i; at = overlap.other; holds = (overlap.port, overlap.share) };
    }))
  ]

  -- it is decided whether some two of well-formed flows overlap
  pub apart_or-clash : (flows : List Flow) → ((j : ℕ) (f : Flow) → At flows j f → Well net f) → Apart flows ⊎ Clash flows
  apart_or-clash [] each = inl (λ i j f g flow. absurd (At-empty flow))
  apart_or-clash (f ∷ flows) each = elim (decided_found (λ g. Overlap f g) flows (λ j g flow. decided_overlap f g (each 0 f here) (each (suc j) g (next flow)))) [
    | yes found ↦ inr (record { i = 0; j = suc found.n; f = f; g = found.x; one = here; other = next found.at; two = omega arith; overlap = found.holds })
    | no none ↦ elim (apart_or-clash flows (λ j g flow. each (suc j) g (next flow))) [
      | inl apart ↦ inl (apart_more none apart)
      | inr clash ↦ inr (record {
        i = suc clash.i;
        j = suc clash.j;
        f = clash.f;
        g = clash.g;
        one = next clash.one;
        other = next clash.other;
        two = omega arith;
        overlap = clash.overlap;
      })
    ]
  ]
