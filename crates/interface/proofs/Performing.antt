-- Calls performed one by one: what was answered and written so far, and one call more.
-- Assumes nothing.
use Rattle.std.proofs.Common.{◌≡◌, ℕ, ◌+◌, ◌*◌, ◌<◌, ◌≤◌, List, [], ◌∷◌, ◌++◌, map, length, get_or, take, drop, Some, None, Ok, Err, Option, Result, sym, refl, ap, ◌∙◌, subst, arith}
use lib.Seq.{take-append_seam, drop-append-add}
use Rattle.std.proofs.lemmas.List.{append_assoc, append-nil, drop-drop, drop_more, get_or-map, length-append, length-drop, length-map, length-take-le}
use Rattle.fault.specs.declared.kinds.PlanFault.{PlanFault}
use Rattle.line.specs.Meaning.{Rules}
use Rattle.plan.specs.declared.call.Call.{Call}
use Rattle.plan.specs.declared.call.Call.TheVariants.{SetUp, Offer, Withdraw, StartOf, Flowspan, GateList}
use Rattle.plan.specs.declared.call.Reply.{Reply}
use Rattle.plan.specs.declared.call.Reply.TheVariants.{Done, Start, Span, Records}
use Rattle.plan.specs.Alike.{Alike}
use Rattle.plan.specs.Calls.{Wires, Model, empty}
use Rattle.plan.specs.Steps.{next, reply, written, after, replies, buffered}
use Rattle.plan.proofs.CallsInOrder.{step-performed}
use Rattle.interface.specs.Answers.{answer_octets, answers_octets, reply_octets}
use Rattle.interface.specs.Spoken.{Spoken, Front, spoken, call, before, first_call, calls_of}
use Rattle.interface.proofs.Reading.{calls-first}

-- no answer depends on where a sheet lies
reply-spoken : (w : Wires) (m : Model) (n : ℕ) (c : Call) → reply w m n c ≡ reply w m n (call (spoken c))
reply-spoken w m n (SetUp C sheet) = refl
reply-spoken w m n (Offer sheet k) = refl
reply-spoken w m n (Withdraw i) = refl
reply-spoken w m n (StartOf i) = refl
reply-spoken w m n Flowspan = refl
reply-spoken w m n (GateList q) = refl

next-spoken : (w : Wires) (m : Model) (c : Call) → next w m c ≡ next w m (call (spoken c))
next-spoken w m (SetUp C sheet) = refl
next-spoken w m (Offer sheet k) = refl
next-spoken w m (Withdraw i) = refl
next-spoken w m (StartOf i) = refl
next-spoken w m Flowspan = refl
next-spoken w m (GateList q) = refl

written-spoken : (w : Wires) (m : Model) (b : List ℕ) (c : Call) → written w m b c ≡ written w m b (call (spoken c))
written-spoken w m b (SetUp C sheet) = refl
written-spoken w m b (Offer sheet k) = refl
written-spoken w m b (Withdraw i) = refl
written-spoken w m b (StartOf i) = refl
written-spoken w m b Flowspan = refl
written-spoken w m b (GateList q) = refl

-- an answer has 16 octets
length-reply : (r : Reply) → length (reply_octets r) ≡ 16
length-reply Done = refl
length-reply (Start s) = refl
length-reply (Span s) = refl
length-reply (Records n) = refl

length-answer : (r : Result Reply PlanFault) → length (answer_octets r) ≡ 16
length-answer (Ok r) = length-reply r
length-answer (Err e) = refl

length-answers : (rs : List (Result Reply PlanFault)) → length (answers_octets rs) ≡ 16 * length rs
length-answers [] = refl
length-answers (r ∷ rs) =
    let front = length-answer r in
    let rest = length-answers rs in
    length-append (answer_octets r) (answers_octets rs) ∙ omega arith

answers_push : (rs : List (Result Reply PlanFault)) (r : Result Reply PlanFault) → answers_octets (rs ++ (r ∷ [])) ≡ answers_octets rs ++ answer_octets r
answers_push [] r = append-nil (answer_octets r)
answers_push (x ∷ rs) r = ap (λ (s : List ℕ). answer_octets x ++ s) (answers_push rs r) ∙ sym (append_assoc (answer_octets x) (answers_octets rs) (answer_octets r))

length-replies : (w : Wires) (m : Model) (n : ℕ) (cs : List Call) → length (replies w m n cs) ≡ length cs
length-replies w m n [] = refl
length-replies w m n (c ∷ cs) = let rest = length-replies w (next w m c) n cs in omega arith

-- octets s behind octets front, over what stood there
over : (front s behind : List ℕ) (at n : ℕ) (answers : List ℕ) → length front ≡ at → length s ≡ n → answers ≡ front ++ drop at behind →
    take at answers ++ (s ++ drop (at + n) answers) ≡ (front ++ s) ++ drop (at + n) behind
over front s behind at n answers long size is =
    let first : take at answers ≡ front = (λ i. take (sym long i) (is i)) ∙ take-append_seam front (drop at behind) in
    let last : drop (at + n) answers ≡ drop (at + n) behind = (λ i. drop (sym long i + n) (is i)) ∙ drop-append-add front (drop at behind) n ∙ drop-drop n at behind in
    (λ i. first i ++ (s ++ last i)) ∙ sym (append_assoc front s (drop (at + n) behind))

-- the element that a list has at the front of what is left, and what is left behind it
record Next {A : Type 0} (xs : List A) (i : ℕ) (y : A) (ys : List A) : Type 0 where
  below : i < length xs
  at : y ≡ get_or xs i y
  rest : ys ≡ drop (i + 1) xs

next_of : {A : Type 0} (xs : List A) (i : ℕ) (y : A) (ys : List A) → drop i xs ≡ y ∷ ys → Next xs i y ys
next_of {A} xs i y ys is =
    let long = ap (length {A = A}) is in
    let all = length-drop i xs in
    let below : i < length xs = omega arith in
    let both = sym is ∙ drop_more xs i y below in
    record { below = below; at = cc; rest = cc }

-- what is left of the calls after the first
next-call : (ss : List Spoken) (i : ℕ) (s : Spoken) (o : Option (List Spoken)) → before s o ≡ Some (drop i ss) → (left : List Spoken) × (o ≡ Some left) × Next ss i s left
next-call ss i s None is = absurd (let z : ◌≡◌ {A = ℕ} 0 1 = cc in omega arith)
next-call ss i s (Some left) is = (left, refl, next_of ss i s left (cc))

module _ (w : Wires) (ss : List Spoken) (answers₀ buffer₀ : List ℕ) where
  -- what the first calls answer
  abbrev pub answered : ℕ → List (Result Reply PlanFault)
  answered i = replies w empty (length buffer₀) (take i (map call ss))

  -- the first calls are performed, and the octets `rest` say the others
  pub record Going (turn : ℕ) (rest : List ℕ) (m : Model) (answers buffer : List ℕ) : Type 0 where
    pub few : turn ≤ length ss
    pub left : calls_of rest ≡ Some (drop turn ss)
    pub alike : Alike m (after w empty (take turn (map call ss)))
    pub told : answers ≡ answers_octets (answered turn) ++ drop (16 * turn) answers₀
    pub wrote : buffer ≡ buffered w empty buffer₀ (take turn (map call ss))

  -- before the first call
  pub going-at-first : (octets : List ℕ) (m : Model) → calls_of octets ≡ Some ss → Alike m empty → Going 0 octets m answers₀ buffer₀
  going-at-first octets m is alike = record { few = omega arith; left = is; alike = alike; told = refl; wrote = refl }

  -- while a call is left, its answer has room
  pub room-left : (i : ℕ) (rest : List ℕ) (m : Model) (answers buffer : List ℕ) → Going i rest m answers buffer → (s : Spoken) (behind : List ℕ) → ◌≡◌ {A = Front Spoken} (Some (s, behind)) (first_call rest) → 16 * i + 16 ≤ 16 * length ss
  room-left i rest m answers buffer g s behind read =
      let more = next-call ss i s (calls_of behind) (sym (calls-first rest s behind read) ∙ g.left) in
      let below = more.2.below in
      omega arith

  -- one call more
  pub going_on : Rules w.most w.meaning → (i n j : ℕ) → n ≡ i → j ≡ i + 1 → (rest : List ℕ) (m : Model) (answers buffer : List ℕ) → Going i rest m answers buffer →
      (c : Call) (behind : List ℕ) → ◌≡◌ {A = Front Spoken} (Some (spoken c, behind)) (first_call rest) →
      (m' : Model) (r : Result Reply PlanFault) (answers' buffer' : List ℕ) →
      Alike m' (next w m c) → r ≡ reply w m (length buffer₀) c → buffer' ≡ written w m buffer c → answers' ≡ take (16 * n) answers ++ (answer_octets r ++ drop (16 * n + 16) answers) →
      Going j behind m' answers' buffer'
  going_on rules i n j at next rest m answers buffer g c behind read m' r answers' buffer' left replied wrote put =
      let s = spoken c in
      let cs = map call ss in
      let more = next-call ss i s (calls_of behind) (sym (calls-first rest s behind read) ∙ g.left) in
      let below = more.2.below in
      let many = length-map ss call in
      let within : i < length cs = omega arith in
      let stands : call s ≡ get_or cs i (call s) = ap call more.2.at ∙ sym (get_or-map call ss i s (call s) below) in
      let step = step-performed w rules cs i (call s) within stands (length buffer₀) buffer₀ m (answered i) buffer g.alike refl g.wrote m' r buffer'
      (subst (Alike m') (next-spoken w m c) left) (replied ∙ reply-spoken w m (length buffer₀) c) (wrote ∙ written-spoken w m buffer c) in
      let first : length (take i cs) ≡ i = length-take-le i cs (omega arith) in
      let long = length-answers (answered i) in
      let count = length-replies w empty (length buffer₀) (take i cs) in
      let full : length (answers_octets (answered i)) ≡ 16 * i = omega arith in
      let end : 16 * i + 16 ≡ 16 * j = omega arith in
      let ahead : take (i + 1) cs ≡ take j cs = ap (λ (k : ℕ). take k cs) (sym next) in
      record {
        few = omega arith;
        left = more.1 ∙ ap Some more.2.rest ∙ ap (λ (k : ℕ). Some (drop k ss)) (sym next);
        alike = subst (λ (ds : List Call). Alike m' (after w empty ds)) ahead step.0;
        told = put ∙ (λ k. take (16 * at k) answers ++ (answer_octets r ++ drop (16 * at k + 16) answers)) ∙ over (answers_octets (answered i)) (answer_octets r) answers₀ (16 * i) 16 answers full (length-answer r) g.told
            ∙ (λ k. (sym (answers_push (answered i) r) ∙ ap answers_octets (step.1 ∙ ap (replies w empty (length buffer₀)) ahead)) k ++ drop (end k) answers₀);
        wrote = step.2 ∙ ap (buffered w empty buffer₀) ahead;
      }
