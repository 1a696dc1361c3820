-- Lists of gate records for states that are given at each place: there is one, and only one.
use mathlib.Core.Path.{◌≡◌, ◌∙◌, refl, sym, ap, subst}
use mathlib.Core.List.{List, [], ◌∷◌}
use mathlib.Core.Logic.{inl, inr}
use Prim.Native.Nat.{ℕ, zero, suc, ◌+◌, ◌-◌, ◌≤◌, ◌<◌}
use native.Mathlib.Decide.{ℕ_discrete}
use native.Mathlib.Nat.{add-zero}
use native.Mathlib.Omega.{arith}
use Rattle.network.specs.Flows.{At, here, next}
use Rattle.network.specs.Gates.{Gate, Shows, now, later, durations}
use Rattle.network.proofs.Lists.{At-empty, At-tail, At-unique}
use Rattle.network.proofs.Shows.{Part, shows-part, shows-now, shows_later}

-- a list of gate records with durations of at least 1 that add up to n, neighbours different, and at each place a state of S
pub record Listed (S : ℕ → ℕ → Type 0) (n : ℕ) (es : List Gate) : Type 0 where
  pub some : (k : ℕ) (e : Gate) → At es k e → 1 ≤ e.duration
  pub whole : durations es ≡ n
  pub differ : (k : ℕ) (e e' : Gate) → At es k e → At es (suc k) e' → e.state ≡ e'.state → ⊥
  pub states : (y s : ℕ) → Shows es y s → S y s

-- S has at most one state at each place
abbrev pub Single : (ℕ → ℕ → Type 0) → Type 0
Single S = (y s r : ℕ) → S y s → S y r → s ≡ r

-- the rest of such a list is one too, for the places after the first duration
listed_rest : {S : ℕ → ℕ → Type 0} {n : ℕ} {e : Gate} {es : List Gate} →
    Listed S n (e ∷ es) → Listed (λ y. S (e.duration + y)) (n - e.duration) es
listed_rest {e = e} l =
    record {
      some = λ k x at. l.some (suc k) x (next at);
      whole = let whole = l.whole in omega arith;
      differ = λ k x x' at at'. l.differ (suc k) x x' (next at) (next at');
      states = λ y s shown. l.states (e.duration + y) s (later shown);
    }

-- two such lists begin with one state ..
first-state : {S : ℕ → ℕ → Type 0} {n : ℕ} {e f : Gate} {es fs : List Gate} →
    Single S → Listed S n (e ∷ es) → Listed S n (f ∷ fs) → e.state ≡ f.state
first-state {e = e} {f} single l m =
    single 0 e.state f.state (l.states 0 e.state (now (l.some 0 e here))) (m.states 0 f.state (now (m.some 0 f here)))

-- .. which does not end sooner in the one than in the other, since its neighbour has another state
first_no_shorter : (es : List Gate) {S : ℕ → ℕ → Type 0} {n : ℕ} {e f : Gate} {fs : List Gate} →
    Single S → Listed S n (e ∷ es) → Listed S n (f ∷ fs) → ¬ (e.duration < f.duration)
first_no_shorter [] single l m lt = let whole = l.whole in let whole' = m.whole in omega arith
first_no_shorter (x ∷ es) {S} {e = e} {f} single l m lt =
    let shown = l.states (e.duration + 0) x.state (later (now (l.some 1 x (next here)))) in
    let neighbour : S e.duration x.state = subst (λ (y : ℕ). S y x.state) (add-zero e.duration) shown in
    let still = m.states e.duration f.state (now lt) in
    l.differ 0 e x here (next here) (first-state single l m ∙ single e.duration f.state x.state still neighbour)

-- so there is at most one such list
pub listed_unique : (es fs : List Gate) (S : ℕ → ℕ → Type 0) (n : ℕ) → Single S → Listed S n es → Listed S n fs → es ≡ fs
listed_unique [] [] S n single l m = refl
listed_unique [] (f ∷ fs) S n single l m =
    let whole = l.whole in
    let whole' = m.whole in
    let some = m.some 0 f here in
    absurd (omega arith)
listed_unique (e ∷ es) [] S n single l m =
    let whole = l.whole in
    let whole' = m.whole in
    let some = l.some 0 e here in
    absurd (omega arith)
listed_unique (e ∷ es) (f ∷ fs) S n single l m =
    let no-shorter = first_no_shorter es single l m in
    let no_longer = first_no_shorter fs single m l in
    let duration : e.duration ≡ f.duration = omega arith in
    let after = λ (y : ℕ). S (f.duration + y) in
    let rest : Listed after (n - f.duration) es = subst (λ (z : ℕ). Listed (λ y. S (z + y)) (n - z) es) duration (listed_rest l) in
    let tail = listed_unique es fs after (n - f.duration) (λ y. single (f.duration + y)) rest (listed_rest m) in
    let state = first-state single l m in
    λ j. record { state = state j; duration = duration j } ∷ tail j

module _ {S : ℕ → ℕ → Type 0} {n : ℕ} {es : List Gate} where
  -- before a list for the places from 1 on that begins with another state stands a record of duration 1
  pub listed_new : (e : Gate) → e.duration ≡ 1 → S 0 e.state → Listed (λ y. S (suc y)) n es →
      ((x : Gate) → At es 0 x → ¬ (e.state ≡ x.state)) → Listed S (suc n) (e ∷ es)
  listed_new e one given l new = record { some = some; whole = let whole = l.whole in omega arith; differ = differ; states = states }
    where
      some : (k : ℕ) (x : Gate) → At (e ∷ es) k x → 1 ≤ x.duration
      some zero x at = subst (λ (x : Gate). 1 ≤ x.duration) (At-unique here at) (omega arith)
      some (suc k) x at = l.some k x (At-tail at)

      differ : (k : ℕ) (x x' : Gate) → At (e ∷ es) k x → At (e ∷ es) (suc k) x' → x.state ≡ x'.state → ⊥
      differ zero x x' at at' same = new x' (At-tail at') (ap (λ (x : Gate). x.state) (At-unique here at) ∙ same)
      differ (suc k) x x' at at' same = l.differ k x x' (At-tail at) (At-tail at') same

      states : (y s : ℕ) → Shows (e ∷ es) y s → S y s
      states zero s shown = subst (S 0) (sym (shows-now shown (omega arith))) given
      states (suc y) s shown = l.states y s (shows_later y shown (omega arith))

  -- where a list for the places from 1 on begins with the state of place 0, its first record lasts 1 longer
  pub listed-longer : (e x : Gate) → x.duration ≡ suc e.duration → x.state ≡ e.state → S 0 x.state →
      Listed (λ y. S (suc y)) n (e ∷ es) → Listed S (suc n) (x ∷ es)
  listed-longer e x longer state given l =
      record { some = some; whole = let whole = l.whole in omega arith; differ = differ; states = states }
    where
      some : (k : ℕ) (z : Gate) → At (x ∷ es) k z → 1 ≤ z.duration
      some zero z at = subst (λ (z : Gate). 1 ≤ z.duration) (At-unique here at) (omega arith)
      some (suc k) z at = l.some (suc k) z (next (At-tail at))

      differ : (k : ℕ) (z z' : Gate) → At (x ∷ es) k z → At (x ∷ es) (suc k) z' → z.state ≡ z'.state → ⊥
      differ zero z z' at at' same =
          l.differ 0 e z' here (next (At-tail at')) (sym state ∙ ap (λ (z : Gate). z.state) (At-unique here at) ∙ same)
      differ (suc k) z z' at at' same = l.differ (suc k) z z' (next (At-tail at)) (next (At-tail at')) same

      shorter : (y s : ℕ) → Part (x ∷ es) (suc y) s → Shows (e ∷ es) y s
      shorter y s (inl first) = let lt = first.0 in subst (Shows (e ∷ es) y) (sym state ∙ sym first.1) (now (omega arith))
      shorter y s (inr rest) =
          let after = rest.1 in
          let at : e.duration + rest.0 ≡ y = omega arith in
          subst (λ (v : ℕ). Shows (e ∷ es) v s) at (later rest.2)

      states : (y s : ℕ) → Shows (x ∷ es) y s → S y s
      states zero s shown = subst (S 0) (sym (shows-now shown (omega arith))) given
      states (suc y) s shown = l.states y s (shorter y s (shows-part shown))

-- a list for the places from 1 on, and a state of place 0, give a list from place 0 on
listed_more : {S : ℕ → ℕ → Type 0} {n : ℕ} (es : List Gate) (s : ℕ) → S 0 s → Listed (λ y. S (suc y)) n es → (fs : List Gate) × Listed S (suc n) fs
listed_more [] s given l =
    let x : Gate = record { state = s; duration = 1 } in
    (x ∷ [], listed_new x refl given l (λ z at. absurd (At-empty at)))
listed_more (e ∷ es) s given l =
    elim (ℕ_discrete s e.state) [
      | yes same ↦
          let x : Gate = record { state = s; duration = suc e.duration } in
          (x ∷ es, listed-longer e x refl same given l)
      | no other ↦
          let x : Gate = record { state = s; duration = 1 } in
          (x ∷ e ∷ es, listed_new x refl given l (λ z at same. other (same ∙ sym (ap (λ (z : Gate). z.state) (At-unique here at)))))
    ]

-- where S has a state at each place below n there is such a list
pub listed-some : (n : ℕ) (S : ℕ → ℕ → Type 0) → ((y : ℕ) → y < n → (s : ℕ) × S y s) → (es : List Gate) × Listed S n es
listed-some zero S given =
    let none : Listed S 0 [] = record {
      some = λ k e at. absurd (At-empty at);
      whole = refl;
      differ = λ k e e' at. absurd (At-empty at);
      states = λ y s shown. absurd (shows-part shown);
    } in
    ([], none)
listed-some (suc n) S given =
    let (es, l) = listed-some n (λ y. S (suc y)) (λ y lt. given (suc y) (omega arith)) in
    let (s, state) = given 0 (omega arith) in
    listed_more es s state l
