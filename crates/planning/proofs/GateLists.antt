-- The recorded states are the one list of gate records that shows them, so the computed gate list is the port's one gate list.
-- Assumes nothing.
use Rattle.std.proofs.Common.{◌≡◌, ℕ, zero, suc, ◌+◌, ◌<◌, Bool, true, false, eqb, List, [], ◌∷◌, sym, refl, ap, ◌∙◌, subst, add-zero, zero-add, arith}
use Rattle.std.proofs.lemmas.Bool.{eqb-true, eqb-false}
use Rattle.network.specs.Flows.{here, Flow, Network, Formed}
use Rattle.network.specs.Gates.{State, Gate, Shows, GateList}
use Rattle.network.proofs.Lists.{At-empty, At-unique}
use Rattle.network.proofs.Shows.{shows-part, shows-some}
use Rattle.network.proofs.Listed.{Listed, listed_new, listed-longer, listed_unique}
use Rattle.network.proofs.GateLists.{gate_list_unique}
use Rattle.planning.specs.Gates.{state, joined, recorded, gates}
use Rattle.planning.proofs.GateStates.{state-is}

-- one place of state s before a list for the places from 1 on
joined-listed : {S : ℕ → ℕ → Type 0} {n : ℕ} (s : ℕ) (es : List Gate) → S 0 s → Listed (λ y. S (suc y)) n es → Listed S (suc n) (joined s es)
joined-listed s [] given l = listed_new (record { state = s; duration = 1 }) refl given l (λ x at. absurd (At-empty at))
joined-listed {S} {n} s (e ∷ es) given l = go (eqb s e.state) refl
  where
    go : (b : Bool) → eqb s e.state ≡ b → Listed S (suc n) (elim b [
      | true ↦ record { state = s; duration = suc e.duration } ∷ es
      | false ↦ record { state = s; duration = 1 } ∷ e ∷ es
    ])
    go true same = listed-longer e (record { state = s; duration = suc e.duration }) refl (eqb-true s e.state same) given l
    go false other =
        listed_new (record { state = s; duration = 1 }) refl given l
        (λ x at equal. eqb-false s e.state other (equal ∙ sym (ap (λ (x : Gate). x.state) (At-unique here at))))

-- the recorded states of n places are a list of gate records for them
pub recorded-listed : (n y : ℕ) (states : ℕ → ℕ) (S : ℕ → ℕ → Type 0) → ((z : ℕ) → z < n → S z (states (y + z))) → Listed S n (recorded states y n)
recorded-listed zero y states S given =
    record {
      some = λ k e at. absurd (At-empty at);
      whole = refl;
      differ = λ k e e' at. absurd (At-empty at);
      states = λ z s shown. absurd (shows-part shown);
    }
recorded-listed (suc n) y states S given =
    let on : (z : ℕ) → z < n → S (suc z) (states (suc y + z)) = λ z lt. subst (λ (x : ℕ). S (suc z) (states x)) (omega arith) (given (suc z) (omega arith)) in
    joined-listed (states y) (recorded states (suc y) n)
    (subst (λ (x : ℕ). S 0 (states x)) (add-zero y) (given 0 (omega arith)))
    (recorded-listed n (suc y) states (λ z. S (suc z)) on)

-- .. the only one
pub recorded-alone : (n y : ℕ) (states : ℕ → ℕ) (es : List Gate) → Listed (λ z s. s ≡ states (y + z)) n es → es ≡ recorded states y n
recorded-alone n y states es l =
    listed_unique es (recorded states y n) (λ z s. s ≡ states (y + z)) n (λ z s r one other. one ∙ sym other) l
    (recorded-listed n y states (λ z s. s ≡ states (y + z)) (λ z lt. refl))

-- .. and shows the state of each place
pub recorded_shows : (n y : ℕ) (states : ℕ → ℕ) (z : ℕ) → z < n → Shows (recorded states y n) z (states (y + z))
recorded_shows n y states z below =
    let l = recorded-listed n y states (λ z s. s ≡ states (y + z)) (λ z lt. refl) in
    let (s, shown) = shows-some (recorded states y n) z (subst (λ (x : ℕ). z < x) (sym l.whole) below) in
    subst (Shows (recorded states y n) z) (l.states z s shown) shown

module _ (net : Network) (flows : List Flow) (q : ℕ) where
  -- the computed gate list is the gate list of the port ..
  pub gates_list : Formed net flows → GateList net flows q (gates net flows q)
  gates_list formed =
      let l =
      recorded-listed net.cycle 0 (state net flows q) (State net flows q)
      (λ y below. subst (λ (x : ℕ). State net flows q y (state net flows q x)) (sym (zero-add y)) (state-is net flows q y formed below)) in
      record { some = l.some; whole = l.whole; differ = l.differ; states = l.states }

  -- .. the only one ..
  pub gates-alone : Formed net flows → (es : List Gate) → GateList net flows q es → es ≡ gates net flows q
  gates-alone formed es l = gate_list_unique es (gates net flows q) l (gates_list formed)

  -- .. and shows the state of each place
  pub gates_shows : (y : ℕ) → y < net.cycle → Shows (gates net flows q) y (state net flows q y)
  gates_shows y below =
      subst (λ (z : ℕ). Shows (gates net flows q) y (state net flows q z)) (zero-add y) (recorded_shows net.cycle 0 (state net flows q) y below)
