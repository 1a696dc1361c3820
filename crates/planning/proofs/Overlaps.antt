-- The tests of overlap, fit and earliest start decide what they are named for.
-- Assumes nothing.
use Rattle.std.proofs.Common.{◌≡◌, ℕ, ◌<◌, Bool, true, false, List, Some, None, Decides, Option, refl, subst, arith}
use Rattle.std.proofs.lemmas.Bool.{false≢true}
use Rattle.std.proofs.lemmas.Bool.Decides.{Decides-and, Decides-eqb, Decides-like, Decides-not, not_from_Decides}
use Rattle.spans.specs.Spans.{Share}
use Rattle.spans.proofs.Formula.{decides-shares}
use Rattle.network.specs.Flows.{At, Hop, Flow}
use Rattle.network.specs.Overlap.{first, starting, Overlap, Fits, Earliest}
use Rattle.network.proofs.Lists.{Found}
use Rattle.planning.specs.Lists.{any}
use Rattle.planning.specs.Overlaps.{meets, overlaps, fits, earliest}
use Rattle.planning.proofs.Lists.{decides-any, Least, least-is, least_unique}

-- the hops h of f and i of g are on one port, and spans of the flows share an instant there
abbrev Meet : Flow → Hop → Flow → Hop → Type 0
Meet f h g i = (h.port ≡ i.port) × Share (first f h) f.period h.wire (first g i) g.period i.wire

pub decides-overlaps : (f g : Flow) → 0 < f.period → 0 < g.period → Decides (overlaps f g) (Overlap f g)
decides-overlaps f g repeats repeats' =
    Decides-like (overlaps f g) to from
    (decides-any (λ h. any (λ i. meets f h g i) g.hops) (λ h. Found (λ i. Meet f h g i) g.hops) f.hops (λ _ h _.
    decides-any (λ i. meets f h g i) (λ i. Meet f h g i) g.hops (λ _ i _. meet h i)))
  where
    meet : (h i : Hop) → Decides (meets f h g i) (Meet f h g i)
    meet h i =
        Decides-and _ _ (Decides-eqb h.port i.port)
        (decides-shares (first f h) f.period h.wire (first g i) g.period i.wire repeats repeats')

    to : Found (λ h. Found (λ i. Meet f h g i) g.hops) f.hops → Overlap f g
    to found =
        let other = found.holds in
        record { j = found.n; k = other.n; h = found.x; i = other.x; one = found.at; other = other.at; port = other.holds.0; share = other.holds.1 }

    from : Overlap f g → Found (λ h. Found (λ i. Meet f h g i) g.hops) f.hops
    from overlap = record {
      n = overlap.j;
      x = overlap.h;
      at = overlap.one;
      holds = record { n = overlap.k; x = overlap.i; at = overlap.other; holds = (overlap.port, overlap.share) };
    }

-- each of the flows has a period
abbrev pub Repeat : List Flow → Type 0
Repeat flows = (j : ℕ) (g : Flow) → At flows j g → 0 < g.period

module _ (flows : List Flow) (repeat : Repeat flows) (f : Flow) (repeats : 0 < f.period) where
  -- whether some flow overlaps f
  decides-clash : Decides (any (λ g. overlaps f g) flows) (Found (λ g. Overlap f g) flows)
  decides-clash = decides-any (λ g. overlaps f g) (λ g. Overlap f g) flows (λ j g at. decides-overlaps f g repeats (repeat j g at))

  pub decides-fits : Decides (fits flows f) (Fits flows f)
  decides-fits =
      Decides-like (fits flows f)
      (λ none j g at overlap. none (record { n = j; x = g; at = at; holds = overlap }))
      (λ fit found. fit found.n found.x found.at found.holds)
      (Decides-not (any (λ g. overlaps f g) flows) decides-clash)

  -- a flow that does not fit overlaps one of the flows
  pub unfit-found : ¬ Fits flows f → Found (λ g. Overlap f g) flows
  unfit-found unfit = go (any (λ g. overlaps f g) flows) decides-clash
    where
      go : (b : Bool) → Decides b (Found (λ g. Overlap f g) flows) → Found (λ g. Overlap f g) flows
      go true decides = decides.0 refl
      go false decides = absurd (unfit (λ j g at overlap. false≢true (decides.1 (record { n = j; x = g; at = at; holds = overlap }))))

-- an answer to the search for the earliest start of a flow
abbrev pub Starts : List Flow → Flow → Option ℕ → Type 0
Starts flows f (Some s) = Earliest flows f s
Starts flows f None = (s : ℕ) → s < f.period → ¬ Fits flows (starting s f)

module _ (flows : List Flow) (repeat : Repeat flows) (f : Flow) (repeats : 0 < f.period) where
  -- the test of a start
  decides_test : (s : ℕ) → Decides (fits flows (starting s f)) (Fits flows (starting s f))
  decides_test s = decides-fits flows repeat (starting s f) repeats

  unfit_fails : (s : ℕ) → ¬ Fits flows (starting s f) → fits flows (starting s f) ≡ false
  unfit_fails s unfit = go (fits flows (starting s f)) (decides_test s)
    where
      go : (b : Bool) → Decides b (Fits flows (starting s f)) → b ≡ false
      go true decides = absurd (unfit (decides.0 refl))
      go false decides = refl

  least_starts : (o : Option ℕ) → Least (λ s. fits flows (starting s f)) 0 f.period o → Starts flows f o
  least_starts (Some s) (from, below, passes, before) = record {
    below = omega arith;
    fits = (decides_test s).0 passes;
    smallest = λ r less. not_from_Decides (fits flows (starting r f)) (decides_test r) (before r (omega arith) less);
  }
  least_starts None before = λ s below. not_from_Decides (fits flows (starting s f)) (decides_test s) (before s (omega arith) (omega arith))

  starts-least : (o : Option ℕ) → Starts flows f o → Least (λ s. fits flows (starting s f)) 0 f.period o
  starts-least (Some s) early = (omega arith, omega arith, (decides_test s).1 early.fits, λ r _ less. unfit_fails r (early.smallest r less))
  starts-least None none = λ s _ below. unfit_fails s (none s (omega arith))

  -- the search answers the earliest start, or that none fits
  pub earliest_starts : (o : Option ℕ) → earliest flows f ≡ o → Starts flows f o
  earliest_starts o e = least_starts o (subst (Least (λ s. fits flows (starting s f)) 0 f.period) e (least-is (λ s. fits flows (starting s f)) 0 f.period))

  -- and what is the earliest start, or that none fits, is what it answers
  pub starts-earliest : (o : Option ℕ) → Starts flows f o → earliest flows f ≡ o
  starts-earliest o is = least_unique (λ s. fits flows (starting s f)) 0 f.period o (starts-least o is)
