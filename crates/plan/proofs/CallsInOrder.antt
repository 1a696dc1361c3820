-- A list of calls, one by one: what they leave, answer and write with one more at the end, also on a plan that holds its flows in another order.
-- Assumes nothing.
use Rattle.std.proofs.Common.{◌≡◌, ℕ, ◌+◌, ◌*◌, ◌<◌, ◌≤◌, Bool, true, false, cond, leb, List, [], ◌∷◌, ◌++◌, length, get_or, take, drop, Some, None, Ok, Err, Option, Result, sym, refl, ap, ◌∙◌, subst, arith}
use Rattle.std.proofs.lemmas.List.{length-append, length-drop, take_more, take_all}
use Rattle.std.proofs.lemmas.Bool.{leb-true}
use Rattle.fault.specs.declared.kinds.PlanFault.{PlanFault}
use Rattle.line.specs.Meaning.{Rules}
use Rattle.network.specs.Gates.{Gate}
use Rattle.network.proofs.Lists.{At-empty}
use Rattle.planning.specs.Setups.{Setup}
use Rattle.planning.proofs.Once.{Once, once-same}
use Rattle.planning.proofs.Same.{same-sym}
use Rattle.plan.specs.declared.call.Call.{Call}
use Rattle.plan.specs.declared.call.Call.TheVariants.{SetUp, Offer, Withdraw, StartOf, Flowspan, GateList}
use Rattle.plan.specs.declared.call.Reply.{Reply}
use Rattle.plan.specs.Alike.{Alike}
use Rattle.plan.specs.Calls.{Wires, Model, empty}
use Rattle.plan.specs.GateOctets.{gate_octets}
use Rattle.plan.specs.Plans.{Namesakes}
use Rattle.plan.specs.Steps.{list_of, reply, next, written, after, replies, buffered}
use Rattle.plan.proofs.Alike.{alike_then, reply_alike, next_alike, written_alike}
use Rattle.plan.proofs.Sound.{SoundHeld, SoundModel, after_sound}

-- one more call at the end
module _ (w : Wires) where
  after_push : (m : Model) (cs : List Call) (c : Call) → after w m (cs ++ (c ∷ [])) ≡ next w (after w m cs) c
  after_push m [] c = refl
  after_push m (d ∷ cs) c = after_push (next w m d) cs c

  replies_push : (m : Model) (n : ℕ) (cs : List Call) (c : Call) → replies w m n (cs ++ (c ∷ [])) ≡ replies w m n cs ++ (reply w (after w m cs) n c ∷ [])
  replies_push m n [] c = refl
  replies_push m n (d ∷ cs) c = ap (λ (rs : List (Result Reply PlanFault)). reply w m n d ∷ rs) (replies_push (next w m d) n cs c)

  buffered_push : (m : Model) (b : List ℕ) (cs : List Call) (c : Call) → buffered w m b (cs ++ (c ∷ [])) ≡ written w (after w m cs) (buffered w m b cs) c
  buffered_push m b [] c = refl
  buffered_push m b (d ∷ cs) c = buffered_push (next w m d) (written w m b d) cs c

-- call c stands at i
module _ (cs : List Call) (i : ℕ) (c : Call) (below : i < length cs) (at : c ≡ get_or cs i c) (w : Wires) (m : Model) where
  take_read : take (i + 1) cs ≡ take i cs ++ (c ∷ [])
  take_read = take_more cs i c below ∙ ap (λ (d : Call). take i cs ++ (d ∷ [])) (sym at)

  pub after_more : after w m (take (i + 1) cs) ≡ next w (after w m (take i cs)) c
  after_more = ap (after w m) take_read ∙ after_push w m (take i cs) c

  pub replies_more : (n : ℕ) → replies w m n (take (i + 1) cs) ≡ replies w m n (take i cs) ++ (reply w (after w m (take i cs)) n c ∷ [])
  replies_more n = ap (replies w m n) take_read ∙ replies_push w m n (take i cs) c

  pub buffered_more : (b : List ℕ) → buffered w m b (take (i + 1) cs) ≡ written w (after w m (take i cs)) (buffered w m b (take i cs)) c
  buffered_more b = ap (buffered w m b) take_read ∙ buffered_push w m b (take i cs) c

-- no call is left at i
module _ (cs : List Call) (i : ℕ) (end : length cs ≤ i) (w : Wires) (m : Model) where
  pub after-all : after w m (take i cs) ≡ after w m cs
  after-all = ap (after w m) (take_all i cs end)

  pub replies-all : (n : ℕ) → replies w m n (take i cs) ≡ replies w m n cs
  replies-all n = ap (replies w m n) (take_all i cs end)

  pub buffered-all : (b : List ℕ) → buffered w m b (take i cs) ≡ buffered w m b cs
  buffered-all b = ap (buffered w m b) (take_all i cs end)

-- each gate record has 5 octets
pub length-gate_octets : (es : List Gate) → length (gate_octets es) ≡ 5 * length es
length-gate_octets [] = refl
length-gate_octets (e ∷ es) = let rest = length-gate_octets es in omega arith

-- a call leaves the buffer its length
length-written : (w : Wires) (m : Model) (b : List ℕ) (c : Call) → length (written w m b c) ≡ length b
length-written w m b (SetUp C sheet) = refl
length-written w m b (Offer sheet k) = refl
length-written w m b (Withdraw i) = refl
length-written w m b (StartOf i) = refl
length-written w m b Flowspan = refl
length-written w m b (GateList q) = go (list_of w m q)
  where
    fill : (es : List Gate) (fits : Bool) → leb (5 * length es) (length b) ≡ fits → length (cond fits (gate_octets es ++ drop (5 * length es) b) b) ≡ length b
    fill es true is =
        let room = leb-true (5 * length es) (length b) is in
        let front = length-gate_octets es in
        let rest = length-drop (5 * length es) b in
        length-append (gate_octets es) (drop (5 * length es) b) ∙ omega arith
    fill es false is = refl

    go : (r : Result (List Gate) PlanFault) → length {A = ℕ} (elim r [ Err _ ↦ b | Ok es ↦ cond (leb (5 * length es) (length b)) (gate_octets es ++ drop (5 * length es) b) b ]) ≡ length b
    go (Err f) = refl
    go (Ok es) = fill es (leb (5 * length es) (length b)) refl

pub length-buffered : (w : Wires) (m : Model) (b : List ℕ) (cs : List Call) → length (buffered w m b cs) ≡ length b
length-buffered w m b [] = refl
length-buffered w m b (c ∷ cs) = length-buffered w (next w m c) (written w m b c) cs ∙ length-written w m b c

-- no two flows of what a plan can hold have one number
sound-numbers : (w : Wires) (m : Model) → SoundModel w m → Once Namesakes m.held
sound-numbers w m sound = go m.setup sound
  where
    go : (o : Option Setup) → SoundHeld w o m.held → Once Namesakes m.held
    go None empty = subst (Once Namesakes) (sym empty) (λ i j f g at. absurd (At-empty at))
    go (Some c) (accepted, keeps, few) = keeps.formed.numbers

module _ (w : Wires) (rules : Rules w.most w.meaning) where
  -- so after a list of calls
  pub after-numbers : (cs : List Call) → Once Namesakes (after w empty cs).held
  after-numbers cs = sound-numbers w (after w empty cs) (after_sound w rules empty cs refl)

  -- the step of a loop that performs calls: a plan that is alike to what the calls before i leave, and then call c on it
  pub step-performed : (cs : List Call) (i : ℕ) (c : Call) → i < length cs → c ≡ get_or cs i c →
      (n : ℕ) (b : List ℕ) (plan : Model) (answers : List (Result Reply PlanFault)) (buffer : List ℕ) →
      Alike plan (after w empty (take i cs)) → answers ≡ replies w empty n (take i cs) → buffer ≡ buffered w empty b (take i cs) →
      (plan' : Model) (r : Result Reply PlanFault) (buffer' : List ℕ) →
      Alike plan' (next w plan c) → r ≡ reply w plan n c → buffer' ≡ written w plan buffer c →
      Alike plan' (after w empty (take (i + 1) cs)) × (answers ++ (r ∷ []) ≡ replies w empty n (take (i + 1) cs)) × (buffer' ≡ buffered w empty b (take (i + 1) cs))
  step-performed cs i c below at n b plan answers buffer alike answered has plan' r buffer' left replied wrote =
      let m = after w empty (take i cs) in
      let numbers = once-same Namesakes (λ f g. sym) (same-sym alike.held) (after-numbers (take i cs)) in
      let replied-alike = replied ∙ reply_alike w plan m alike numbers n c in (
        subst (Alike plan') (sym (after_more cs i c below at w empty)) (alike_then left (next_alike w plan m alike numbers c)),
        (λ j. answered j ++ (replied-alike j ∷ [])) ∙ sym (replies_more cs i c below at w empty n),
        wrote ∙ written_alike w plan m alike buffer c ∙ ap (λ (l : List ℕ). written w m l c) has ∙ sym (buffered_more cs i c below at w empty b),
      )
