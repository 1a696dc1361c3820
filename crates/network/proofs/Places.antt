-- The arithmetic of places: how far one instant's place is ahead of another's round the cycle.
use mathlib.Core.Path.{◌≡◌, sym, ◌∙◌, ap}
use Prim.Native.Nat.{ℕ, ◌+◌, ◌-◌, ◌*◌, ◌/◌, ◌%◌, ◌≤◌, ◌<◌}
use native.Mathlib.Nat.{mod-le, add-mul-mod_self_right}
use native.Mathlib.Omega.{arith}

-- from the place of u up to the place of t, round the cycle C, it is no further than from u to t
pub place-ahead-≤ : (C u t : ℕ) → 0 < C → u ≤ t → (t % C + (C - u % C)) % C ≤ t - u
place-ahead-≤ C u t some le =
    let ahead = t % C + (C - u % C) in
    let whole : ahead + t / C * C ≡ (t - u) + (u / C + 1) * C = omega arith in
    let place : ahead % C ≡ (t - u) % C =
    sym (add-mul-mod_self_right ahead (t / C) C) ∙ ap (λ (x : ℕ). x % C) whole ∙ add-mul-mod_self_right (t - u) (u / C + 1) C in
    let below = mod-le (t - u) C in
    omega arith
