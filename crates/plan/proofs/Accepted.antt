-- A done set-up is one that the line accepts.
-- Assumes nothing.
use Rattle.std.proofs.Common.{◌≡◌, ℕ, ◌<◌, ◌≤◌, Bool, true, false, cond, not, ◌||◌, eqb, ltb, List, [], ◌∷◌, map, length, get_or, None, Ok, Err, Result, refl, ◌∙◌, subst, arith}
use Rattle.std.specs.List.{AllByRecursion as All}
use Rattle.std.proofs.ByRecursion.{All-get_or, All-map}
use Rattle.std.proofs.lemmas.List.{length-map}
use Rattle.std.proofs.lemmas.Bool.{eqb-true, ltb-false, not-false, or_parts}
use Rattle.fault.specs.declared.kinds.PlanFault.{PlanFault}
use Rattle.sheet.specs.declared.port.PortRecord.{PortRecord}
use Rattle.planning.specs.Lists.{any}
use Rattle.planning.specs.Setups.{Port, Setup, Accepted, blank}
use Rattle.plan.specs.Calls.{Wires, port, set_up}
use Rattle.plan.proofs.Records.{refused_not-done}

-- what is done was not refused first
cond_ok : {A : Type 0} (b : Bool) (f : PlanFault) (rest : Result A PlanFault) (x : A) → cond b (Err f) rest ≡ Ok x → (b ≡ false) × (rest ≡ Ok x)
cond_ok true f rest x e = refused_not-done e
cond_ok false f rest x e = (refl, e)

-- where none passes a test, every element fails it
any_none : {A : Type 0} (p : A → Bool) (xs : List A) → any p xs ≡ false → All (λ x. p x ≡ false) xs
any_none p [] e = tt
any_none p (x ∷ xs) e = let (here, rest) = or_parts (p x) (any p xs) e in (here, any_none p xs rest)

-- what holds of the port of each record holds of each port by its number
each-port : (P : Port → Type 0) (xs : List PortRecord) (q : ℕ) → q < length (map port xs) → All (λ x. P (port x)) xs → P (get_or (map port xs) q blank)
each-port P xs q below all = All-get_or P (map port xs) q blank below (All-map P port xs all)

-- a done set-up of records of best-effort lengths from 64 on is accepted
pub set_up-accepted : (w : Wires) (C : ℕ) (xs : List PortRecord) (c : Setup) → All (λ x. 64 ≤ x.best_effort) xs →
    set_up w None C xs ≡ Ok c → Accepted w.most w.meaning c
set_up-accepted w C xs c shortest e =
    let (cycle, e₁) = cond_ok (ltb C 1000 || ltb 1000000000 C) _ _ c e in
    let (low, high) = or_parts (ltb C 1000) (ltb 1000000000 C) cycle in
    let (count, e₂) = cond_ok (not (eqb (length xs) w.meaning.ports)) _ _ c e₁ in
    let (longest, e₃) = cond_ok (any (λ x. ltb w.most x.best_effort) xs) _ _ c e₂ in
    let same : record { cycle = C; ports = map port xs } ≡ c = cc in
    let ports : length (map port xs) ≡ w.meaning.ports = length-map xs port ∙ eqb-true (length xs) w.meaning.ports (not-false _ count) in
    subst (Accepted w.most w.meaning) same
    (record {
      least = ltb-false C 1000 low;
      greatest = ltb-false 1000000000 C high;
      ports = ports;
      shortest = λ q below. each-port (λ p. 64 ≤ p.best) xs q (omega arith) shortest;
      longest = λ q below.
          ltb-false w.most (get_or (map port xs) q blank).best
          (each-port (λ p. ltb w.most p.best ≡ false) xs q (omega arith) (any_none _ xs longest));
    })
