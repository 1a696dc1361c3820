-- The formulas compute what they are named for: `gcd` the greatest common divisor, and `shares` whether two sets of spans share an instant.
-- Assumes nothing.
use Rattle.std.proofs.Common.{◌≡◌, ℕ, zero, suc, ◌-◌, ◌%◌, ◌<◌, ◌≤◌, Bool, true, false, eqb, ◌⊎◌, Decides, sym, refl, subst, inl, inr, mod-lt, arith}
use native.Mathlib.Decide.{dec_lt}
use Rattle.std.proofs.lemmas.Bool.{eqb-true, eqb-false, false≢true}
use Rattle.std.proofs.lemmas.Bool.Decides.{Decides-and, Decides-like, Decides-ltb, Decides-or, same_from_decides}
use Rattle.spans.specs.Divisors.{Greatest}
use Rattle.spans.specs.Formula.{euclid, gcd, shares}
use Rattle.spans.specs.Places.{ahead}
use Rattle.spans.specs.Spans.{Share}
use Rattle.spans.proofs.Circle.{ahead_leads, ahead-below}
use Rattle.spans.proofs.Euclid.{divides_antisymm, greatest-none, greatest_up, greatest-zero, reach}
use Rattle.spans.proofs.Sharing.{share-near, share_far, share-apart}

-- two numbers have one greatest common divisor
pub greatest_unique : (m n g k : ℕ) → Greatest m n g → Greatest m n k → g ≡ k
greatest_unique m n g k great other =
    divides_antisymm g k (other.every g great.one great.other) (great.every k other.one other.other)

-- with as many steps as the second number has units
euclid-greatest : (k m n : ℕ) → n ≤ k → Greatest m n (euclid k m n)
euclid-greatest zero m n few = subst (λ (z : ℕ). Greatest m z m) (sym zero_n) (greatest-zero m)
  where
    zero_n : n ≡ 0
    zero_n = omega arith
euclid-greatest (suc k) m n few = go (eqb n 0) refl (λ pos. euclid-greatest k n (m % n) (let less = mod-lt m pos in omega arith))
  where
    go : (b : Bool) → eqb n 0 ≡ b → (0 < n → Greatest n (m % n) (euclid k n (m % n))) → Greatest m n (elim b [ true ↦ m | false ↦ euclid k n (m % n) ])
    go true e low = subst (λ (z : ℕ). Greatest m z m) (sym (eqb-true n 0 e)) (greatest-zero m)
    go false e low = greatest_up m n _ (low (let ne = eqb-false n 0 e in omega arith))

pub gcd-greatest : (m n : ℕ) → Greatest m n (gcd m n)
unfolding gcd
gcd-greatest m n = euclid-greatest n m n (omega arith)

pub gcd_unique : (m n g : ℕ) → Greatest m n g → g ≡ gcd m n
gcd_unique m n g great = greatest_unique m n g (gcd m n) great (gcd-greatest m n)

-- the distance formula decides whether two sets of spans share an instant
pub decides-shares : (x T v y U w : ℕ) → 0 < T → 0 < U → Decides (shares x T v y U w) (Share x T v y U w)
unfolding shares
decides-shares x T v y U w repeats repeats' =
    Decides-like _ to from
    (Decides-and _ _ (Decides-and _ _ (Decides-ltb 0 v) (Decides-ltb 0 w)) (Decides-or _ _ (Decides-ltb r w) (Decides-ltb (g - r) v)))
  where
    g : ℕ
    g = gcd T U

    r : ℕ
    r = ahead g x y

    great : Greatest T U g
    great = gcd-greatest T U

    round : 0 < g
    round = elim (dec_lt 0 g) [
      | yes pos ↦ pos
      | no none ↦ let e = (greatest-none T U g great (omega arith)).0 in absurd (omega arith)
    ]

    to : ((0 < v) × (0 < w)) × ((r < w) ⊎ (g - r < v)) → Share x T v y U w
    to (lasts, inl near) = share-near g x T v y U w r (reach T U g repeats repeats' great) lasts.0 (ahead_leads g x y round) near
    to (lasts, inr far) =
        let below = ahead-below g x y round in
        share_far g x T v y U w r (reach T U g repeats repeats' great) lasts.1 (ahead_leads g x y round) (omega arith) far

    from : Share x T v y U w → ((0 < v) × (0 < w)) × ((r < w) ⊎ (g - r < v))
    from share =
        let one = share.one in
        let other = share.other in (
          (omega arith, omega arith),
          elim (dec_lt r w) [
            | yes near ↦ inl near
            | no after ↦ elim (dec_lt (g - r) v) [
              | yes far ↦ inr far
              | no before ↦
                  let below = ahead-below g x y round in
                  absurd (share-apart g x T v y U w r great.one great.other (ahead_leads g x y round) below (omega arith) (omega arith) share)
            ]
          ],
        )

-- a test that decides the same gives the same answer
pub shares_unique : (x T v y U w : ℕ) (r : Bool) → 0 < T → 0 < U → Decides r (Share x T v y U w) → r ≡ shares x T v y U w
shares_unique x T v y U w r repeats repeats' decides = same_from_decides r (shares x T v y U w) decides (decides-shares x T v y U w repeats repeats')

-- so it is decided
pub decided_share : (x T v y U w : ℕ) → 0 < T → 0 < U → 0 < v → 0 < w → Dec (Share x T v y U w)
decided_share x T v y U w repeats repeats' lasts lasts' = go (shares x T v y U w) (decides-shares x T v y U w repeats repeats')
  where
    go : (b : Bool) → Decides b (Share x T v y U w) → Dec (Share x T v y U w)
    go true decides = yes (decides.0 refl)
    go false decides = no (λ share. absurd (false≢true (decides.1 share)))
