-- Distances round a circle: `ahead g x y` is the one distance below g that leads from y up to x, and how it changes as a place moves.
-- Of spans with first instant x and period T, at a place y: `ahead T y x` is what `since` answers, `ahead T x y` what `until` answers.
-- Assumes nothing.
use Rattle.std.proofs.Common.{◌≡◌, ℕ, ◌+◌, ◌-◌, ◌*◌, ◌/◌, ◌%◌, ◌<◌, ◌≤◌, sym, ap, ◌∙◌, mod-lt, mod-eq_of_lt, arith}
use native.Mathlib.Nat.{mod-le, mul-add-mod_self_right}
use native.Mathlib.Decide.{dec_le}
use Rattle.spans.specs.Places.{ahead}

-- from y it is r up to x, but for whole rounds of g
pub record Leads (g x y r : ℕ) : Type 0 where
  pub i : ℕ
  pub j : ℕ
  pub meet : x + i * g ≡ y + j * g + r

pub ahead_leads : (g x y : ℕ) → 0 < g → Leads g x y (ahead g x y)
unfolding ahead
ahead_leads g x y pos =
    record {
      i = y / g + 1;
      j = (x + (g - y % g)) / g;
      meet = omega arith;
    }

pub ahead-below : (g x y : ℕ) → 0 < g → ahead g x y < g
unfolding ahead
ahead-below g x y pos = mod-lt (x + (g - y % g)) pos

-- two distances from y up to x differ by whole rounds
pub leads-mod : (g x y r m : ℕ) → Leads g x y r → Leads g x y m → r % g ≡ m % g
leads-mod g x y r m one other =
    let same : (one.j + other.i) * g + r ≡ (other.j + one.i) * g + m = omega arith in
    sym (mul-add-mod_self_right (one.j + other.i) g r) ∙ ap (λ (n : ℕ). n % g) same ∙ mul-add-mod_self_right (other.j + one.i) g m

-- the distance below g is the least
pub leads-least : (g x y r m : ℕ) → Leads g x y r → r < g → Leads g x y m → r ≤ m
leads-least g x y r m leads below other =
    let e = leads-mod g x y r m leads other in
    let f = mod-eq_of_lt below in
    let le = mod-le m g in
    omega arith

pub ahead-least : (g x y r : ℕ) → 0 < g → Leads g x y r → ahead g x y ≤ r
ahead-least g x y r pos leads =
    leads-least g x y (ahead g x y) r (ahead_leads g x y pos) (ahead-below g x y pos) leads

pub ahead_unique : (g x y r : ℕ) → Leads g x y r → r < g → ahead g x y ≡ r
ahead_unique g x y r leads below =
    let pos : 0 < g = omega arith in
    let le = ahead-least g x y r pos leads in
    let ge = leads-least g x y r (ahead g x y) leads below (ahead_leads g x y pos) in
    omega arith

-- the other way round the circle
pub leads_back : (g x y r : ℕ) → Leads g x y r → r ≤ g → Leads g y x (g - r)
leads_back g x y r leads le = record { i = leads.j + 1; j = leads.i; meet = omega arith }

-- up from y to x and on from x up to y is a whole round at least
pub leads_round : (g x y r m : ℕ) → Leads g x y r → Leads g y x m → 0 < m → g ≤ r + m
leads_round g x y r m up on pos =
    elim (dec_le g (r + m)) [
      | yes le ↦ le
      | no n ↦
          let r< : r < g = omega arith in
          let m< : g - m < g = omega arith in
          let e = leads-mod g x y r (g - m) up (leads_back g y x m on (omega arith)) in
          let f = mod-eq_of_lt r< in
          let h = mod-eq_of_lt m< in
          absurd (omega arith)
    ]

-- the two distances between x and y make up the circle
pub ahead_both : (g x y : ℕ) → 0 < g → 0 < ahead g x y → ahead g x y + ahead g y x ≡ g
ahead_both g x y pos apart =
    let below = ahead-below g x y pos in
    let e =
    ahead_unique g y x (g - ahead g x y)
    (leads_back g x y (ahead g x y) (ahead_leads g x y pos) (omega arith))
    (omega arith) in
    omega arith

pub ahead-zero : (g x y : ℕ) → 0 < g → ahead g x y ≡ 0 → ahead g y x ≡ 0
ahead-zero g x y pos e =
    let up = ahead_leads g x y pos in
    ahead_unique g y x 0 (record { i = up.j; j = up.i; meet = omega arith }) pos

-- at a first instant both distances are 0
pub since-first : (T x a : ℕ) → 0 < T → ahead T (x + a * T) x ≡ 0
since-first T x a pos = ahead_unique T (x + a * T) x 0 (record { i = 0; j = a; meet = omega arith }) pos

-- a first instant is the next one
pub until-first : (T x a : ℕ) → 0 < T → ahead T x (x + a * T) ≡ 0
until-first T x a pos = ahead-zero T (x + a * T) x pos (since-first T x a pos)

-- up to the next first instant a later place lies as much nearer to it
pub until-later : (T x y j : ℕ) → 0 < T → j ≤ ahead T x y → ahead T x (y + j) ≡ ahead T x y - j
until-later T x y j pos le =
    let up = ahead_leads T x y pos in
    let below = ahead-below T x y pos in
    ahead_unique T x (y + j) (ahead T x y - j) (record { i = up.i; j = up.j; meet = omega arith }) (omega arith)

-- within the period a later place lies as much further from the latest first instant
pub since-later : (T x y j : ℕ) → ahead T y x + j < T → ahead T (y + j) x ≡ ahead T y x + j
since-later T x y j below =
    let pos : 0 < T = omega arith in
    let up = ahead_leads T y x pos in
    ahead_unique T (y + j) x (ahead T y x + j) (record { i = up.i; j = up.j; meet = omega arith }) below

-- the same, for a place before the next first instant
pub since-before : (T x y j : ℕ) → 0 < T → j < ahead T x y → ahead T (y + j) x ≡ ahead T y x + j
since-before T x y j pos before = let e = ahead_both T x y pos (omega arith) in since-later T x y j (omega arith)

-- the next first instant is one
pub until-next : (T x y : ℕ) → 0 < T → ahead T x (y + ahead T x y) ≡ 0
until-next T x y pos = let e = until-later T x y (ahead T x y) pos (omega arith) in omega arith

-- and the latest one there
pub since-next : (T x y : ℕ) → 0 < T → ahead T (y + ahead T x y) x ≡ 0
since-next T x y pos = ahead-zero T x (y + ahead T x y) pos (until-next T x y pos)
