-- What two lists with the same elements have in common: every test, number and answer that is computed from them.
-- Assumes nothing.
use Rattle.std.proofs.Common.{◌≡◌, ℕ, suc, ◌+◌, max, Bool, true, false, cond, not, ◌||◌, leb, List, [], ◌∷◌, length, Some, None, Ok, Err, Option, refl, ap, ◌∙◌, arith}
use mathlib.Core.Path.{fun_ext}
use Rattle.fault.specs.declared.kinds.PlanFault.TheVariants.{Start, Taken, NoStart}
use Rattle.network.specs.Flows.{Flow, Network, total}
use Rattle.network.specs.Overlap.{starting}
use Rattle.planning.specs.Lists.{any, without, least, Same, none, keep, swap, then}
use Rattle.planning.specs.Overlaps.{overlaps, fits, earliest}
use Rattle.planning.specs.Gates.{covered, guarded, state, recorded, gates}
use Rattle.planning.proofs.Lists.{kept}
use Rattle.planning.specs.Offers.{Offered, flow, held, refusal, placed, answer, flowspan}

pub same_refl : {A : Type 0} (xs : List A) → Same xs xs
same_refl [] = none
same_refl (x ∷ xs) = keep (same_refl xs)

pub same-sym : {A : Type 0} {xs ys : List A} → Same xs ys → Same ys xs
same-sym none = none
same-sym (keep same) = keep (same-sym same)
same-sym swap = swap
same-sym (then same more) = then (same-sym more) (same-sym same)

or_swap : (a b c : Bool) → a || (b || c) ≡ b || (a || c)
or_swap true true c = refl
or_swap true false c = refl
or_swap false true c = refl
or_swap false false c = refl

pub any_same : {A : Type 0} {xs ys : List A} (p : A → Bool) → Same xs ys → any p xs ≡ any p ys
any_same p none = refl
any_same p (keep {x = x} same) = ap (λ (b : Bool). p x || b) (any_same p same)
any_same p (swap {x = x} {y = y} {xs = xs}) = or_swap (p x) (p y) (any p xs)
any_same p (then same more) = any_same p same ∙ any_same p more

pub length-same : {A : Type 0} {xs ys : List A} → Same xs ys → length xs ≡ length ys
length-same none = refl
length-same (keep same) = ap suc (length-same same)
length-same swap = refl
length-same (then same more) = length-same same ∙ length-same more

kept_same : {A : Type 0} (out : Bool) (x : A) {xs ys : List A} → Same xs ys → Same (kept out x xs) (kept out x ys)
kept_same true x same = same
kept_same false x same = keep same

kept-swap : {A : Type 0} (out out' : Bool) (x y : A) (xs : List A) → Same (kept out x (kept out' y xs)) (kept out' y (kept out x xs))
kept-swap true true x y xs = same_refl xs
kept-swap true false x y xs = same_refl (y ∷ xs)
kept-swap false true x y xs = same_refl (x ∷ xs)
kept-swap false false x y xs = swap

pub without-same : {A : Type 0} {xs ys : List A} (p : A → Bool) → Same xs ys → Same (without p xs) (without p ys)
without-same p none = none
without-same p (keep {x = x} same) = kept_same (p x) x (without-same p same)
without-same p (swap {x = x} {y = y} {xs = xs}) = kept-swap (p x) (p y) x y (without p xs)
without-same p (then same more) = then (without-same p same) (without-same p more)

module _ {flows flows' : List Flow} (same : Same flows flows') where
  pub held_same : (n : ℕ) → held n flows ≡ held n flows'
  held_same n = any_same _ same

  pub fits-same : (f : Flow) → fits flows f ≡ fits flows' f
  fits-same f = ap not (any_same (overlaps f) same)

  pub earliest-same : (f : Flow) → earliest flows f ≡ earliest flows' f
  earliest-same f = ap (λ (p : ℕ → Bool). least p 0 f.period) (fun_ext (λ s. fits-same (starting s f)))

  refusal-same : (net : Network) (most : ℕ) (x : Offered) → refusal net most flows x ≡ refusal net most flows' x
  refusal-same net most x = let h = held_same x.number in let l = length-same same in cc

  placed_same : (chosen : Option ℕ) (f : Flow) → placed flows chosen f ≡ placed flows' chosen f
  placed_same (Some s) f = λ j. cond (leb f.period s) (Err Start) (cond (fits-same (starting s f) j) (Ok s) (Err Taken))
  placed_same None f = λ j. elim (earliest-same f j) [ Some s ↦ Ok s | None ↦ Err NoStart ]

  pub answer-same : (net : Network) (most : ℕ) (x : Offered) → answer net most flows x ≡ answer net most flows' x
  answer-same net most x = λ j. elim (refusal-same net most x j) [ Some e ↦ Err e | None ↦ placed_same x.chosen (flow net x 0) j ]

  covered_same : (q y : ℕ) → covered flows q y ≡ covered flows' q y
  covered_same q y = any_same _ same

  guarded-same : (net : Network) (q y : ℕ) → guarded net flows q y ≡ guarded net flows' q y
  guarded-same net q y = any_same _ same

  state-same : (net : Network) (q y : ℕ) → state net flows q y ≡ state net flows' q y
  state-same net q y = λ j. cond (covered_same q y j) 0x80 (cond (guarded-same net q y j) 0x00 0x7f)

  pub gates-same : (net : Network) (q : ℕ) → gates net flows q ≡ gates net flows' q
  gates-same net q = ap (λ (states : ℕ → ℕ). recorded states 0 net.cycle) (fun_ext (state-same net q))

pub flowspan-same : {flows flows' : List Flow} (net : Network) → Same flows flows' → flowspan net flows ≡ flowspan net flows'
flowspan-same net none = refl
flowspan-same net (keep {x = f} same) = ap (λ (n : ℕ). max (f.start + total net f.hops) n) (flowspan-same net same)
flowspan-same net swap = omega arith
flowspan-same net (then same more) = flowspan-same net same ∙ flowspan-same net more
