-- When two sets of spans share an instant: by the distance r of their first instants round a circle of g, the greatest common divisor of their periods.
-- Assumes nothing.
use Rattle.std.proofs.Common.{◌≡◌, ℕ, ◌+◌, ◌-◌, ◌*◌, ◌<◌, ◌≤◌, sym, ap, subst, arith}
use native.Mathlib.Decide.{dec_le}
use Rattle.spans.specs.Divisors.{Divides, Greatest}
use Rattle.spans.specs.Places.{ahead}
use Rattle.spans.specs.Spans.{Share}
use Rattle.spans.specs.declared.span.Spans.{Spans}
use Rattle.spans.proofs.Circle.{Leads, ahead_leads, ahead-below, leads_back, leads-least, leads_round}
use Rattle.spans.proofs.Euclid.{Reach, reach, reach-other}

-- a span of the one begins within a span of the other
pub share-near : (g x T v y U w r : ℕ) → Reach T U g → 0 < v → Leads g x y r → r < w → Share x T v y U w
share-near g x T v y U w r reaches lasts leads near =
    let (a, b, e) = reaches leads.i leads.j in
    let meet = leads.meet in
    record { a = a; b = b; t = x + a * T; one = (omega arith, omega arith); other = (omega arith, omega arith) }

share_other : (x T v y U w : ℕ) → Share y U w x T v → Share x T v y U w
share_other x T v y U w share =
    record { a = share.b; b = share.a; t = share.t; one = share.other; other = share.one }

-- a span of the other begins within a span of the one
pub share_far : (g x T v y U w r : ℕ) → Reach T U g → 0 < w → Leads g x y r → r ≤ g → g - r < v → Share x T v y U w
share_far g x T v y U w r reaches lasts leads round near =
    share_other x T v y U w
    (share-near g y U w x T v (g - r) (reach-other T U g reaches) lasts (leads_back g x y r leads round) near)

-- the spans lie apart
pub share-apart : (g x T v y U w r : ℕ) → Divides g T → Divides g U → Leads g x y r → r < g → w ≤ r → v + r ≤ g → Share x T v y U w → ⊥
share-apart g x T v y U w r (k, e) (l, f) leads below after before share =
    let a : ℕ = share.a in
    let b : ℕ = share.b in
    let one = share.one in
    let other = share.other in
    let ae = ap (λ (z : ℕ). a * z) e in
    let bf = ap (λ (z : ℕ). b * z) f in
    elim (dec_le (y + b * U) (x + a * T)) [
      | yes le ↦
          let m : ℕ = x + a * T - (y + b * U) in
          let least =
          leads-least g x y r m leads below (record { i = a * k; j = b * l; meet = omega arith }) in
          omega arith
      | no n ↦
          let m : ℕ = y + b * U - (x + a * T) in
          let round =
          leads_round g x y r m leads
          (record { i = b * l; j = a * k; meet = omega arith })
          (omega arith) in
          omega arith
    ]

-- spans that last, with first instants r apart round a circle of g, the greatest common divisor of their periods
pub record Pair (g x T v y U w r : ℕ) : Type 0 where
  pub reaches : Reach T U g
  pub great : Greatest T U g
  pub lasts : (0 < v) × (0 < w)
  pub leads : Leads g x y r
  pub below : r < g

module _ (g x T v y U w r : ℕ) (pair : Pair g x T v y U w r) where
  -- moved up by m the one lies r + m ahead of the other
  moved : (m n : ℕ) → r + m ≡ n → Leads g (x + m) y n
  moved m n e = let leads = pair.leads in record { i = leads.i; j = leads.j; meet = omega arith }

  -- or a round less
  moved_round : (m n : ℕ) → r + m ≡ n + g → Leads g (x + m) y n
  moved_round m n e = let leads = pair.leads in record { i = leads.i; j = leads.j + 1; meet = omega arith }

  near-shares : (m n : ℕ) → Leads g (x + m) y n → n < w → Share (x + m) T v y U w
  near-shares m n leads near = share-near g (x + m) T v y U w n pair.reaches pair.lasts.0 leads near

  far-shares : (m n : ℕ) → Leads g (x + m) y n → n ≤ g → g - n < v → Share (x + m) T v y U w
  far-shares m n leads round far =
      share_far g (x + m) T v y U w n pair.reaches pair.lasts.1 leads round far

  -- moved up to the end of a span of the other, where there is room for one
  end_clears : (m : ℕ) → Leads g (x + m) y w → v + w ≤ g → Share (x + m) T v y U w → ⊥
  end_clears m leads fits =
      let lasts = pair.lasts in
      share-apart g (x + m) T v y U w w pair.great.one pair.great.other leads (omega arith) (omega arith) fits

  -- together two spans are longer than the circle
  pub share_always : g < v + w → (m : ℕ) → Share (x + m) T v y U w
  share_always long m =
      let below = pair.below in
      let pos : 0 < g = omega arith in
      let n : ℕ = ahead g (x + m) y in
      let leads = ahead_leads g (x + m) y pos in
      let n< = ahead-below g (x + m) y pos in
      elim (dec_le w n) [
        | yes le ↦ far-shares m n leads (omega arith) (omega arith)
        | no more ↦ near-shares m n leads (omega arith)
      ]

  pub share-never : w ≤ r → v + r ≤ g → Share x T v y U w → ⊥
  share-never after before =
      share-apart g x T v y U w r pair.great.one pair.great.other pair.leads pair.below after before

  -- the one begins within the other, and moves up to its end
  pub share-before-near : (m : ℕ) → m < w - r → Share (x + m) T v y U w
  share-before-near m less = near-shares m (r + m) (moved m (r + m) (omega arith)) (omega arith)

  pub share-after-near : r < w → v + w ≤ g → Share (x + (w - r)) T v y U w → ⊥
  share-after-near near fits = end_clears (w - r) (moved (w - r) w (omega arith)) fits

  -- the other begins within the one, which moves up to that beginning and on to the end
  pub share-before_far : (m : ℕ) → g - r < v → m < g - r + w → Share (x + m) T v y U w
  share-before_far m far less =
      elim (dec_le g (r + m)) [
        | yes le ↦ near-shares m (r + m - g) (moved_round m (r + m - g) (omega arith)) (omega arith)
        | no more ↦ far-shares m (r + m) (moved m (r + m) (omega arith)) (omega arith) (omega arith)
      ]

  pub share-after_far : v + w ≤ g → Share (x + (g - r + w)) T v y U w → ⊥
  share-after_far fits =
      let below = pair.below in
      end_clears (g - r + w) (moved_round (g - r + w) w (omega arith)) fits

-- what the greatest common divisor and the distance of two sets of spans give
pub pair_of : (one other : Spans) (g r : ℕ) → 0 < one.wire → 0 < other.wire → Greatest one.period other.period g → r ≡ ahead g one.first other.first → r < g → Pair g one.first one.period one.wire other.first other.period other.wire r
pair_of one other g r lasts-one lasts-other great e below =
    record {
      reaches = reach one.period other.period g one.repeats other.repeats great;
      great = great;
      lasts = (lasts-one, lasts-other);
      leads = subst (Leads g one.first other.first) (sym e) (ahead_leads g one.first other.first (omega arith));
      below = below;
    }
