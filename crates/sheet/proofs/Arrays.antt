-- What an array of calls of a closure holds.
use Rattle.std.proofs.Common.{◌≡◌, ℕ, zero, suc, ◌+◌, ◌<◌, ◌≤◌, List, get_or, map, refl, ◌∙◌, subst, ⊎_elim, arith}
use Rattle.std.specs.Array.{IsFromFnResultFrom, IsFromFnResult}
use Rattle.std.specs.Fn.{Called}
use Rattle.std.specs.List.{range_with_len}
use Rattle.std.proofs.lemmas.Bool.{cases_lt}
use Rattle.std.proofs.lemmas.List.FromFn.{fill_by_all}
use denote.Param.Members.{Mut}

-- a closure that each call leaves as it was, and whose calls below n give what h gives
module _ {F : Type 0} (g : Mut F (ℕ × Unit {0}) ℕ) (f : F) (h : ℕ → ℕ) (n : ℕ) (step : (i y : ℕ) (q : F) → i < n → Called g f (i, tt) y q → (q ≡ f) × (y ≡ h i)) (ys : List ℕ) where
  each-from_calls : (m i : ℕ) (p : F) → p ≡ f → i + m ≡ n → IsFromFnResultFrom g p ys i m → (k : ℕ) → i ≤ k → k < n → get_or ys k 0 ≡ h k
  each-from_calls zero i p same sum r k low high = absurd (omega arith)
  each-from_calls (suc m) i p same sum r k low high =
      let call = step i r.1 r.0 (omega arith) (subst (λ (a : F). Called g a (i, tt) r.1 r.0) same r.3) in
      ⊎_elim
      (λ (later : i < k). each-from_calls m (i + 1) r.0 call.0 (omega arith) r.4 k (omega arith) high)
      (λ (here : k ≤ i). let e : k ≡ i = omega arith in rw e (r.2.1 0 ∙ call.1))
      (cases_lt i k)

  pub items-from_fn : IsFromFnResult g f ys n → ys ≡ map h (range_with_len 0 n)
  items-from_fn r =
      fill_by_all h ys n 0 r.long (λ k below. each-from_calls n 0 f refl (omega arith) r.each k (omega arith) below)
