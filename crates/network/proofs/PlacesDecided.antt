-- Whether spans cover or guard a place of the cycle is decided: the spans repeat with the cycle, so those of one cycle tell.
use mathlib.Core.Path.{◌≡◌, ◌∙◌, sym, ap, subst}
use Prim.Native.Nat.{ℕ, ◌+◌, ◌-◌, ◌*◌, ◌/◌, ◌%◌, ◌≤◌, ◌<◌}
use native.Mathlib.Decide.{dec_le, dec_lt, ℕ_discrete, map_dec}
use native.Mathlib.Nat.{mod-lt, mod-add-mod, mod-add-div', add-mul-mod_self_right}
use native.Mathlib.Omega.{arith}
use Rattle.spans.specs.Spans.{begins, Covers, Guards}
use Rattle.network.proofs.Search.{decided_some_below}

-- a cycle of more than 0 has more than 0 periods
periods-some : (C c T : ℕ) → C ≡ c * T → 0 < C → 0 < c
periods-some C c T whole some =
    elim (dec_lt 0 c) [
      | yes lt ↦ lt
      | no not ↦ let none : c ≡ 0 = omega arith in let empty = whole ∙ ap (λ (z : ℕ). z * T) none in absurd (omega arith)
    ]

-- spans whose numbers are equal modulo the number of periods begin whole cycles apart, so at one place
place_turns : (C c x T : ℕ) → C ≡ c * T → (a : ℕ) → begins x T a % C ≡ begins x T (a % c) % C
place_turns C c x T whole a =
    let number = ap (λ (z : ℕ). z * T) (mod-add-div' a c) in
    let turns = ap (λ (z : ℕ). a / c * z) whole in
    let later : begins x T a ≡ begins x T (a % c) + a / c * C = omega arith in
    ap (λ (z : ℕ). z % C) later ∙ add-mul-mod_self_right (begins x T (a % c)) (a / c) C

-- it is decided whether a span covers a place: some span of one cycle does, at some instant n after its first
pub decided_covers : (C c x T w y : ℕ) → C ≡ c * T → 0 < C → Dec (Covers C x T w y)
decided_covers C c x T w y whole some =
    map_dec
    (λ found.
    let (a, lt, (n, below, place)) = found in
    record { a = a; t = begins x T a + n; within = (omega arith, omega arith); place = place })
    (λ covers. (covers.a % c, mod-lt covers.a (periods-some C c T whole some), inside covers))
    (decided_some_below c (λ a. (n : ℕ) × (n < w) × ((begins x T a + n) % C ≡ y))
    (λ a. decided_some_below w (λ n. (begins x T a + n) % C ≡ y) (λ n. ℕ_discrete ((begins x T a + n) % C) y)))
  where
    inside : (covers : Covers C x T w y) → (n : ℕ) × (n < w) × ((begins x T (covers.a % c) + n) % C ≡ y)
    inside covers =
        let a = covers.a in
        let n : ℕ = covers.t - begins x T a in
        let within = covers.within in
        let at : begins x T a + n ≡ covers.t = omega arith in
        let turned = ap (λ (z : ℕ). (z + n) % C) (sym (place_turns C c x T whole a)) in
        let place = sym (mod-add-mod (begins x T (a % c)) C n) ∙ turned ∙ mod-add-mod (begins x T a) C n in
        (n, omega arith, place ∙ ap (λ (z : ℕ). z % C) at ∙ covers.place)

-- it is decided whether a place lies in the guard band before a span
pub decided_guards : (C c x T G y : ℕ) → C ≡ c * T → 0 < C → Dec (Guards C x T G y)
decided_guards C c x T G y whole some =
    map_dec (λ found. record { a = found.0; near = found.2 })
    (λ guards. (
      guards.a % c,
      mod-lt guards.a (periods-some C c T whole some),
      subst (λ (z : ℕ). (z + (C - y)) % C ≤ G) (place_turns C c x T whole guards.a) guards.near,
    ))
    (decided_some_below c (λ a. (begins x T a % C + (C - y)) % C ≤ G) (λ a. dec_le ((begins x T a % C + (C - y)) % C) G))
