-- No call tells apart two plans that hold the same flows in another order: it answers, leaves and writes the same.
-- Assumes nothing.
use Rattle.std.proofs.Common.{◌≡◌, ℕ, ◌*◌, Bool, true, false, cond, eqb, ltb, leb, List, ◌∷◌, ◌++◌, length, drop, Some, None, Ok, Err, Option, Result, sym, refl, ap, ◌∙◌, subst, arith}
use Rattle.std.proofs.lemmas.Bool.{eqb-true}
use Rattle.fault.specs.declared.kinds.PlanFault.{PlanFault}
use Rattle.fault.specs.declared.kinds.PlanFault.TheVariants.{Record, NotSetUp, NotHeld, NoPort, Buffer}
use Rattle.fault.specs.declared.kinds.RecordFault.{RecordFault}
use Rattle.sheet.specs.declared.flow.FlowRecord.{FlowRecord}
use Rattle.sheet.specs.Flows.{read_flow}
use Rattle.sheet.specs.Ports.{read_port}
use Rattle.sheet.specs.Sheets.{read_at, read_sheet}
use Rattle.network.specs.Flows.{here, next as later, Flow}
use Rattle.planning.specs.Lists.{Same, none, keep, swap, then}
use Rattle.planning.specs.Offers.{flow}
use Rattle.planning.specs.Setups.{Setup, network}
use Rattle.planning.proofs.Once.{Once, once_rest, once-same}
use Rattle.planning.proofs.Same.{without-same, answer-same, gates-same, flowspan-same}
use Rattle.plan.specs.declared.call.Call.{Call}
use Rattle.plan.specs.declared.call.Call.TheVariants.{SetUp, Offer, Withdraw, StartOf, Flowspan, GateList}
use Rattle.plan.specs.declared.call.Reply.TheVariants.{Done, Start, Span, Records}
use Rattle.plan.specs.Alike.{Alike}
use Rattle.plan.specs.Calls.{Wires, Model, offered, set_up, set_up_answer, offer_answer, start_of, start_answer, withdraw_answer, flowspan_answer}
use Rattle.plan.specs.GateOctets.{gate_octets}
use Rattle.plan.specs.Plans.{Namesakes}
use Rattle.plan.specs.Steps.{list_of, gates_answer, told, reply, added, next, written}

pub alike_then : {l m n : Model} → Alike l m → Alike m n → Alike l n
alike_then alike more = record { setup = alike.setup ∙ more.setup; held = then alike.held more.held }

-- the start of one of two flows of different numbers
start-swap : (n : ℕ) (f g : Flow) (fs : List Flow) → (Namesakes f g → ⊥) → start_of n (f ∷ g ∷ fs) ≡ start_of n (g ∷ f ∷ fs)
start-swap n f g fs differ = go (eqb f.number n) (eqb g.number n) refl refl
  where
    go : (one other : Bool) → eqb f.number n ≡ one → eqb g.number n ≡ other →
        ◌≡◌ {A = Option ℕ}
        (elim one [ true ↦ Some f.start | false ↦ elim other [ true ↦ Some g.start | false ↦ start_of n fs ] ])
        (elim other [ true ↦ Some g.start | false ↦ elim one [ true ↦ Some f.start | false ↦ start_of n fs ] ])
    go true true is is' = absurd (differ (eqb-true f.number n is ∙ sym (eqb-true g.number n is')))
    go true false is is' = refl
    go false true is is' = refl
    go false false is is' = refl

-- where no two flows have one number, their order does not tell the start of a number
start_of-same : (n : ℕ) {fs gs : List Flow} → Same fs gs → Once Namesakes fs → start_of n fs ≡ start_of n gs
start_of-same n none once = refl
start_of-same n (keep {x = f} same) once =
    λ j. elim (eqb f.number n) [ true ↦ Some f.start | false ↦ start_of-same n same (once_rest Namesakes once) j ]
start_of-same n (swap {x = f} {y = g} {xs = fs}) once =
    start-swap n f g fs (λ one. let never = once 0 1 f g here (later here) one in omega arith)
start_of-same n (then same more) once = start_of-same n same once ∙ start_of-same n more (once-same Namesakes (λ f g. sym) same once)

-- what a call that is answered alike leaves
done_alike : {A : Type 0} {r r' : Result A PlanFault} {m m' : Model} (done done' : A → Model) → r ≡ r' → Alike m m' → ((x : A) → Alike (done x) (done' x)) →
    Alike (elim r [ Ok x ↦ done x | Err _ ↦ m ]) (elim r' [ Ok x ↦ done' x | Err _ ↦ m' ])
done_alike {A} {r} {r'} {m} {m'} done done' same alike each =
    subst (λ (s : Result A PlanFault). Alike (elim r [ Ok x ↦ done x | Err _ ↦ m ]) (elim s [ Ok x ↦ done' x | Err _ ↦ m' ])) same (go r)
  where
    go : (s : Result A PlanFault) → Alike (elim s [ Ok x ↦ done x | Err _ ↦ m ]) (elim s [ Ok x ↦ done' x | Err _ ↦ m' ])
    go (Ok x) = each x
    go (Err f) = alike

-- flows with the one that a record offers, at start s, before them: where the plan is set up and the record was read
abbrev one_more : Wires → ℕ → Option Setup → Result FlowRecord RecordFault → List Flow → List Flow
one_more w s o r fs = elim o [ None ↦ fs | Some c ↦ elim r [ Err _ ↦ fs | Ok x ↦ flow (network w.meaning c) (offered x) s ∷ fs ] ]

-- the answers that tell no start, the flow that an offer adds, and what a call writes
module _ (w : Wires) (m m' : Model) (alike : Alike m m') where
  set_up_alike : (C : ℕ) (sheet : List ℕ) → set_up_answer w m C sheet ≡ set_up_answer w m' C sheet
  set_up_alike C sheet = λ j. elim (read_sheet 8 read_port sheet) [ Err e ↦ Err (Record e) | Ok xs ↦ set_up w (alike.setup j) C xs ]

  offer_alike : (sheet : List ℕ) (k : ℕ) → offer_answer w m sheet k ≡ offer_answer w m' sheet k
  offer_alike sheet k = λ j. elim (read_at 21 read_flow k sheet) [
    | Err e ↦ Err (Record e)
    | Ok x ↦ elim (alike.setup j) [ None ↦ Err NotSetUp | Some c ↦ answer-same alike.held (network w.meaning c) w.most (offered x) j ]
  ]

  flowspan_alike : flowspan_answer w m ≡ flowspan_answer w m'
  flowspan_alike = λ j. elim (alike.setup j) [ None ↦ Err NotSetUp | Some c ↦ Ok (flowspan-same (network w.meaning c) alike.held j) ]

  pub list_alike : (q : ℕ) → list_of w m q ≡ list_of w m' q
  list_alike q = λ j. elim (alike.setup j) [
    | None ↦ Err NotSetUp
    | Some c ↦ cond (ltb q w.meaning.ports) (Ok (gates-same alike.held (network w.meaning c) q j)) (Err NoPort)
  ]

  gates_alike : (q n : ℕ) → gates_answer w m q n ≡ gates_answer w m' q n
  gates_alike q n = λ j. elim (list_alike q j) [ Err e ↦ Err e | Ok es ↦ cond (leb (5 * length es) n) (Ok (length es)) (Err Buffer) ]

  added_alike : (sheet : List ℕ) (k s : ℕ) → Same (added w m sheet k s) (added w m' sheet k s)
  added_alike sheet k s =
      subst (λ (o : Option Setup). Same (added w m sheet k s) (one_more w s o (read_at 21 read_flow k sheet) m'.held)) alike.setup
      (go m.setup (read_at 21 read_flow k sheet))
    where
      go : (o : Option Setup) (r : Result FlowRecord RecordFault) → Same (one_more w s o r m.held) (one_more w s o r m'.held)
      go None r = alike.held
      go (Some c) (Err f) = alike.held
      go (Some c) (Ok x) = keep alike.held

  pub written_alike : (b : List ℕ) (c : Call) → written w m b c ≡ written w m' b c
  written_alike b (SetUp C sheet) = refl
  written_alike b (Offer sheet k) = refl
  written_alike b (Withdraw i) = refl
  written_alike b (StartOf i) = refl
  written_alike b Flowspan = refl
  written_alike b (GateList q) = λ j. elim (list_alike q j) [ Err _ ↦ b | Ok es ↦ cond (leb (5 * length es) (length b)) (gate_octets es ++ drop (5 * length es) b) b ]

-- the answers that tell a start, and what a call leaves, where no two flows have one number
module _ (w : Wires) (m m' : Model) (alike : Alike m m') (numbers : Once Namesakes m.held) where
  start_alike : (i : ℕ) → start_answer m i ≡ start_answer m' i
  start_alike i = λ j. elim (alike.setup j) [
    | None ↦ Err NotSetUp
    | Some c ↦ elim (start_of-same i alike.held numbers j) [ None ↦ Err NotHeld | Some s ↦ Ok s ]
  ]

  withdraw_alike : (i : ℕ) → withdraw_answer m i ≡ withdraw_answer m' i
  withdraw_alike i = λ j. elim (start_alike i j) [ Ok s ↦ Ok tt | Err e ↦ Err e ]

  pub reply_alike : (n : ℕ) (c : Call) → reply w m n c ≡ reply w m' n c
  reply_alike n (SetUp C sheet) = ap (told (λ _. Done)) (set_up_alike w m m' alike C sheet.now)
  reply_alike n (Offer sheet k) = ap (told Start) (offer_alike w m m' alike sheet.now k)
  reply_alike n (Withdraw i) = ap (told (λ _. Done)) (withdraw_alike i)
  reply_alike n (StartOf i) = ap (told Start) (start_alike i)
  reply_alike n Flowspan = ap (told Span) (flowspan_alike w m m' alike)
  reply_alike n (GateList q) = ap (told Records) (gates_alike w m m' alike q n)

  pub next_alike : (c : Call) → Alike (next w m c) (next w m' c)
  next_alike (SetUp C sheet) = done_alike _ _ (set_up_alike w m m' alike C sheet.now) alike (λ c. record { setup = refl; held = alike.held })
  next_alike (Offer sheet k) = done_alike _ _ (offer_alike w m m' alike sheet.now k) alike (λ s. record { setup = alike.setup; held = added_alike w m m' alike sheet.now k s })
  next_alike (Withdraw i) = done_alike _ _ (withdraw_alike i) alike (λ _. record { setup = alike.setup; held = without-same (λ f. eqb f.number i) alike.held })
  next_alike (StartOf i) = alike
  next_alike Flowspan = alike
  next_alike (GateList q) = alike
