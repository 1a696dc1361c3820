-- What octets come to, by the ways that a list of calls can go.
-- Assumes nothing.
use Rattle.std.proofs.Common.{◌≡◌, ◌≢◌, ℕ, ◌*◌, ◌<◌, ◌≤◌, leb, List, [], ◌∷◌, ◌++◌, map, length, take, drop, pos, negsuc, Some, None, Ok, Err, Option, Result, sym, refl, ap, ◌∙◌, arith}
use Rattle.std.proofs.lemmas.List.{length-drop, length-map, take_all}
use Rattle.std.proofs.lemmas.Bool.{le-leb, lt-leb, cond-true, cond-false}
use Rattle.std.specs.Option.{ok_or}
use Rattle.line.specs.Meaning.{Rules}
use Rattle.plan.specs.Calls.{Wires, Model, empty}
use Rattle.plan.specs.Steps.{replies, buffered}
use Rattle.plan.proofs.Assured.{always-assured, lists_always_fit}
use Rattle.interface.specs.declared.unperformed.Unperformed.{Unperformed}
use Rattle.interface.specs.declared.unperformed.Unperformed.TheVariants.{Calls}
use Rattle.interface.specs.Answers.{answers_octets}
use Rattle.interface.specs.Performed.{Outcome, Performs, came_to, done, performed, outcome, said}
use Rattle.interface.specs.Spoken.{Spoken, Front, call, first_call, calls_of, counted}
use Rattle.interface.proofs.Performing.{Going}
use Rattle.interface.proofs.Reading.{calls-none}

-- the calls of a list of calls
abbrev pub listed : Option (List Spoken) → List Spoken
listed None = []
listed (Some ss) = ss

-- what cannot be counted is no list of calls
pub not-counted : (o : Option (List Spoken)) (e : Unperformed) → ◌≡◌ {A = Result ℕ Unperformed} (Err e) (ok_or (counted o) Calls) → (o ≡ None) × (e ≡ Calls)
not-counted None e is = (refl, cc)
not-counted (Some ss) e is = absurd (let z : ◌≡◌ {A = ℕ} 0 1 = cc in omega arith)

-- what can be counted is one, with so many calls
pub is-counted : (o : Option (List Spoken)) (n : ℕ) → ◌≡◌ {A = Result ℕ Unperformed} (Ok n) (ok_or (counted o) Calls) → (o ≡ Some (listed o)) × (n ≡ length (listed o))
is-counted None n is = absurd (let z : ◌≡◌ {A = ℕ} 0 1 = cc in omega arith)
is-counted (Some ss) n is = (refl, cc)

-- what a plan holds is assured whatever the octets are
pub performs : (w : Wires) → Rules w.most w.meaning → (octets answers buffer : List ℕ) (came : Outcome) → came ≡ outcome w octets answers buffer → Performs w octets answers buffer came
performs w rules octets answers buffer came is = record { outcome = is; assured = always-assured w rules (said octets); lists = lists_always_fit w rules (said octets) }

module _ (w : Wires) (answers buffer : List ℕ) where
  pub no-calls : (o : Option (List Spoken)) → o ≡ None → came_to (negsuc 1) answers buffer ≡ performed w o answers buffer
  no-calls o is = sym (ap (λ (p : Option (List Spoken)). performed w p answers buffer) is)

  pub no_room : (o : Option (List Spoken)) (ss : List Spoken) → o ≡ Some ss → length answers < 16 * length ss → came_to (negsuc 2) answers buffer ≡ performed w o answers buffer
  no_room o ss is short = sym (ap (λ (p : Option (List Spoken)). performed w p answers buffer) is ∙ cond-false (leb (16 * length ss) (length answers)) _ _ (lt-leb (16 * length ss) (length answers) short))

  pub all_done : (o : Option (List Spoken)) (ss : List Spoken) → o ≡ Some ss → 16 * length ss ≤ length answers → done w (map call ss) answers buffer ≡ performed w o answers buffer
  all_done o ss is long = sym (ap (λ (p : Option (List Spoken)). performed w p answers buffer) is ∙ cond-true (leb (16 * length ss) (length answers)) _ _ (le-leb (16 * length ss) (length answers) long))

-- octets that say calls have a call at the front
pub not-refused : (rest : List ℕ) (ss : List Spoken) → calls_of rest ≡ Some ss → rest ≢ [] → ◌≡◌ {A = Front Spoken} None (first_call rest) → ⊥
not-refused rest ss left some none = absurd (let is = calls-none rest some none in let z : ◌≡◌ {A = ℕ} 0 1 = cc in omega arith)

-- no call is left behind the last
none_left : (rest : List ℕ) (ss : List Spoken) (i : ℕ) → ◌≡◌ {A = Front Spoken} None (first_call rest) → calls_of rest ≡ Some (drop i ss) → length ss ≤ i
none_left [] ss i none left =
    let same : [] ≡ drop i ss = cc in
    let few = ap (length {A = Spoken}) same in
    let all = length-drop i ss in
    omega arith
none_left (x ∷ rest) ss i none left = absurd (not-refused (x ∷ rest) (drop i ss) left (λ same. let z : ◌≡◌ {A = ℕ} 0 1 = cc in omega arith) none)

-- behind the last call all is answered and written
module _ (w : Wires) (ss : List Spoken) (answers₀ buffer₀ : List ℕ) (i : ℕ) (rest : List ℕ) (m : Model) (answers buffer : List ℕ) where
  pub gone_through : Going w ss answers₀ buffer₀ i rest m answers buffer → ◌≡◌ {A = Front Spoken} None (first_call rest) →
      came_to (pos (length (map call ss))) answers buffer ≡ done w (map call ss) answers₀ buffer₀
  gone_through g none =
      let cs = map call ss in
      let many = length-map ss call in
      let over = none_left rest ss i none g.left in
      let few = g.few in
      let end : 16 * i ≡ 16 * length cs = omega arith in
      let all : take i cs ≡ cs = take_all i cs (omega arith) in
      let told = g.told ∙ (λ j. answers_octets (replies w empty (length buffer₀) (all j)) ++ drop (end j) answers₀) in
      let wrote = g.wrote ∙ ap (buffered w empty buffer₀) all in
      λ j. came_to (pos (length cs)) (told j) (wrote j)
