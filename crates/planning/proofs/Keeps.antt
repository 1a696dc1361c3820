-- Flows that a plan can hold stay so: with the flow of a done offer, and without some of them.
-- Assumes nothing.
use Rattle.std.proofs.Common.{◌≡◌, ℕ, ◌/◌, ◌<◌, ◌≤◌, Bool, true, false, List, [], ◌∷◌, length, Some, None, Ok, Err, Option, Result, sym, refl, ap, ◌∙◌, subst, arith}
use Rattle.std.proofs.lemmas.Bool.Decides.{nat_tests}
use Rattle.fault.specs.declared.kinds.PlanFault.{PlanFault}
use Rattle.fault.specs.declared.kinds.PlanFault.TheVariants.{NoStart}
use Rattle.network.specs.Flows.{Flow, Network, Well, Formed}
use Rattle.network.specs.Overlap.{starting, Overlap, Fits}
use Rattle.network.proofs.Lists.{At-empty}
use Rattle.network.proofs.OverlapDecided.{overlap-sym}
use Rattle.planning.specs.Lists.{without, Same}
use Rattle.planning.specs.Overlaps.{fits, earliest}
use Rattle.planning.specs.Offers.{flow, refusal, placed}
use Rattle.planning.specs.Promise.{Keeps, OffersKeep, IsFew, OffersStayFew}
use Rattle.planning.specs.Setups.{network}
use Rattle.planning.proofs.Once.{Each, each_more, each-without, each_same, once_more, once-without, once-same}
use Rattle.planning.proofs.Overlaps.{Repeat, decides-fits, earliest_starts}
use Rattle.planning.proofs.Offers.{refusal-none, passed_well}
use Rattle.planning.proofs.Setups.{rules_timed}

-- two flows have one number
abbrev Namesake : Flow → Flow → Type 0
Namesake f g = f.number ≡ g.number

pub formed_repeat : {net : Network} {flows : List Flow} → Formed net flows → Repeat flows
formed_repeat formed j g at = let well = formed.each j g at in omega arith

-- a well-formed flow of a new number
pub formed_more : {net : Network} {f : Flow} {flows : List Flow} →
    Well net f → Each (λ g. ¬ (g.number ≡ f.number)) flows → Formed net flows → Formed net (f ∷ flows)
formed_more {net} well new formed = record {
  each = each_more (λ g. Well net g) well formed.each;
  numbers = once_more Namesake (λ f g. sym) (λ j g at e. new j g at (sym e)) formed.numbers;
}

-- and one that fits
pub keeps_more : {net : Network} {f : Flow} {flows : List Flow} →
    Well net f → Each (λ g. ¬ (g.number ≡ f.number)) flows → Fits flows f → Keeps net flows → Keeps net (f ∷ flows)
keeps_more well new fit keeps = record {
  formed = formed_more well new keeps.formed;
  apart = once_more Overlap (λ f g. overlap-sym) fit keeps.apart;
}

pub keeps-without : {net : Network} (p : Flow → Bool) (flows : List Flow) → Keeps net flows → Keeps net (without p flows)
keeps-without {net} p flows keeps = record {
  formed = record {
    each = each-without (λ g. Well net g) p flows keeps.formed.each;
    numbers = once-without Namesake (λ f g. sym) p flows keeps.formed.numbers;
  };
  apart = once-without Overlap (λ f g. overlap-sym) p flows keeps.apart;
}

-- no flows are few
pub few_none : (net : Network) → IsFew net []
few_none net = record { room = omega arith; few = λ j f at. absurd (At-empty at) }

-- one more is few where there is room
pub few_more : {net : Network} {f : Flow} {flows : List Flow} → length flows < 64 → net.cycle / f.period ≤ 16 → IsFew net flows → IsFew net (f ∷ flows)
few_more {net} room few is = record {
  room = omega arith;
  few = each_more (λ g. net.cycle / g.period ≤ 16) few is.few;
}

-- what is left is no longer
length_without : {A : Type 0} (p : A → Bool) (xs : List A) → length (without p xs) ≤ length xs
length_without p [] = omega arith
length_without {A} p (x ∷ xs) = let rest = length_without p xs in go (p x) rest
  where
    go : (b : Bool) → length (without p xs) ≤ length xs → length (elim b as (λ _. List A) [ true ↦ without p xs | false ↦ x ∷ without p xs ]) ≤ length (x ∷ xs)
    go true rest = omega arith
    go false rest = omega arith

pub few-without : {net : Network} (p : Flow → Bool) (flows : List Flow) → IsFew net flows → IsFew net (without p flows)
few-without {net} p flows is = record {
  room = let less = length_without p flows in let room = is.room in omega arith;
  few = each-without (λ g. net.cycle / g.period ≤ 16) p flows is.few;
}

-- the same flows in another order
pub keeps_same : {net : Network} {flows flows' : List Flow} → Same flows flows' → Keeps net flows → Keeps net flows'
keeps_same {net} same keeps = record {
  formed = record {
    each = each_same (λ g. Well net g) same keeps.formed.each;
    numbers = once-same Namesake (λ f g. sym) same keeps.formed.numbers;
  };
  apart = once-same Overlap (λ f g. overlap-sym) same keeps.apart;
}

-- a done offer falls under no refusal
answer_ok : (o : Option PlanFault) (rest : Result ℕ PlanFault) (s : ℕ) →
    ◌≡◌ {A = Result ℕ PlanFault} (elim o [ Some e ↦ Err e | None ↦ rest ]) (Ok s) → (o ≡ None) × (rest ≡ Ok s)
answer_ok (Some e) rest s done = let z : ◌≡◌ {A = ℕ} 0 1 = cc in absurd (omega arith)
answer_ok None rest s done = (refl, done)

-- a start that is chosen and placed is below the period, and the flow fits at it
placed_chosen : (flows : List Flow) (f : Flow) (r s : ℕ) → placed flows (Some r) f ≡ Ok s → (r ≡ s) × (r < f.period) × (fits flows (starting r f) ≡ true)
placed_chosen flows f r s done = (grind (arith, nat_tests), grind (arith, nat_tests), grind (arith, nat_tests))

-- the answer to the earliest start
abbrev found : Option ℕ → Result ℕ PlanFault
found o = elim o [ Some s ↦ Ok s | None ↦ Err NoStart ]

-- the start of a flow that is placed is below its period and fits
module _ (flows : List Flow) (repeat : Repeat flows) (f : Flow) (repeats : 0 < f.period) where
  placed_ok : (chosen : Option ℕ) (s : ℕ) → placed flows chosen f ≡ Ok s → (s < f.period) × Fits flows (starting s f)
  placed_ok (Some r) s done =
      let (same, below, fit) = placed_chosen flows f r s done in
      let fits-r = (decides-fits flows repeat (starting r f) repeats).0 fit in
      (omega arith, subst (λ (z : ℕ). Fits flows (starting z f)) same fits-r)
  placed_ok None s done = go (earliest flows f) refl done
    where
      go : (o : Option ℕ) → earliest flows f ≡ o → found o ≡ Ok s → (s < f.period) × Fits flows (starting s f)
      go (Some r) is e =
          let same : r ≡ s = cc in
          let first = earliest_starts flows repeat f repeats (Some s) (is ∙ ap Some same) in
          (first.below, first.fits)
      go None is e = let z : ◌≡◌ {A = ℕ} 0 1 = cc in absurd (omega arith)

pub offers-keep : OffersKeep
offers-keep most m c rules accepted flows keeps x s recorded done =
    let net = network m c in
    let (passes, placed) = answer_ok (refusal net most flows x) _ s done in
    let passed = refusal-none net most flows x recorded.period_least passes in
    let (below, fit) = placed_ok flows (formed_repeat keeps.formed) (flow net x 0) recorded.period_least x.chosen s placed in
    keeps_more (passed_well (rules_timed most m c rules) recorded passed s below) passed.fresh fit keeps

-- flows stay few with the flow of a done offer
pub offers_stay_few : OffersStayFew
offers_stay_few most net flows is x s recorded done =
    let (passes, placed) = answer_ok (refusal net most flows x) _ s done in
    let passed = refusal-none net most flows x recorded.period_least passes in
    few_more passed.room passed.few is
