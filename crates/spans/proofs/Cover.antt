-- The distance from the latest first instant decides which places are covered, and the distance up to the next one which are guarded.
-- Assumes nothing.
use Rattle.std.proofs.Common.{◌≡◌, ℕ, zero, suc, ◌+◌, ◌-◌, ◌*◌, ◌/◌, ◌%◌, ◌<◌, ◌≤◌, ap, ◌∙◌, mod-eq_of_lt, arith}
use native.Mathlib.Nat.{add-mul-mod_self_right, mod-add-mod}
use Rattle.spans.specs.Divisors.{Divides}
use Rattle.spans.specs.Places.{ahead, DecidesCover, DecidesGuard}
use Rattle.spans.specs.Spans.{begins, Covers, Guards}
use Rattle.spans.proofs.Circle.{ahead_leads, ahead-below, ahead-least}

since-covered : (x T y C w : ℕ) → 0 < T → Divides T C → y < C → Covers C x T w y → ahead T y x < w
since-covered x T y C w pos (c, e) in-cycle cover =
    let f = ap (λ (z : ℕ). cover.t / C * z) e in
    let place = cover.place in
    let least =
    ahead-least T y x (cover.t - (x + cover.a * T)) pos
    (record { i = cover.t / C * c; j = cover.a; meet = omega arith }) in
    omega arith

covered-since : (x T y C w : ℕ) → 0 < T → Divides T C → y < C → ahead T y x < w → Covers C x T w y
covered-since x T y C w pos (zero, e) in-cycle within = absurd (omega arith)
covered-since x T y C w pos (suc c, e) in-cycle within =
    let up = ahead_leads T y x pos in
    let f = ap (λ (z : ℕ). up.i * z) e in
    record {
      a = up.j + up.i * c;
      t = y + up.i * C;
      within = (omega arith, omega arith);
      place = add-mul-mod_self_right y up.i C ∙ mod-eq_of_lt in-cycle;
    }

until-guarded : (x T y C G : ℕ) → 0 < T → Divides T C → y < C → Guards C x T G y → ahead T x y ≤ G
until-guarded x T y C G pos (c, e) in-cycle guard =
    let b : ℕ = begins x T guard.a in
    let z : ℕ = b % C + (C - y) in
    let f = ap (λ (n : ℕ). b / C * n) e in
    let h = ap (λ (n : ℕ). z / C * n) e in
    let near = guard.near in
    let least =
    ahead-least T x y (z % C) pos
    (record { i = guard.a + c; j = (b / C + z / C) * c; meet = omega arith }) in
    omega arith

guarded_until : (x T y C G : ℕ) → 0 < T → Divides T C → y < C → ahead T x y ≤ G → Guards C x T G y
guarded_until x T y C G pos (zero, e) in-cycle within = absurd (omega arith)
guarded_until x T y C G pos (suc c, e) in-cycle within =
    let up = ahead_leads T x y pos in
    let a : ℕ = up.i + up.j * c in
    let f = ap (λ (z : ℕ). up.j * z) e in
    let rounds : begins x T a + (C - y) ≡ ahead T x y + suc up.j * C = omega arith in
    let below = ahead-below T x y pos in
    let r< : ahead T x y < C = omega arith in
    let near : (begins x T a % C + (C - y)) % C ≡ ahead T x y =
    mod-add-mod (begins x T a) C (C - y) ∙ ap (λ (z : ℕ). z % C) rounds ∙
    add-mul-mod_self_right (ahead T x y) (suc up.j) C ∙ mod-eq_of_lt r< in
    record { a = a; near = omega arith }

pub since_decides : (x T y r : ℕ) → 0 < T → r ≡ ahead T y x → DecidesCover x T y r
since_decides x T y r pos e =
    record {
      only = λ C w whole in-cycle cover. let lt = since-covered x T y C w pos whole in-cycle cover in omega arith;
      all = λ C w whole in-cycle within. covered-since x T y C w pos whole in-cycle (omega arith);
    }

pub until_decides : (x T y r : ℕ) → 0 < T → r ≡ ahead T x y → DecidesGuard x T y r
until_decides x T y r pos e =
    record {
      only = λ C G whole in-cycle guard. let le = until-guarded x T y C G pos whole in-cycle guard in omega arith;
      all = λ C G whole in-cycle within. guarded_until x T y C G pos whole in-cycle (omega arith);
    }
