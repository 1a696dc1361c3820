-- What a plan holds after every call: no flow before it is set up, and then flows that the network of its set-up can hold.
-- Assumes nothing.
use Rattle.std.proofs.Common.{◌≡◌, ℕ, ◌≤◌, List, [], ◌∷◌, Some, None, Ok, Err, Option, Result, sym, refl, ap, subst}
use Rattle.fault.specs.declared.kinds.PlanFault.{PlanFault}
use Rattle.fault.specs.declared.kinds.PlanFault.TheVariants.{Record, NotSetUp}
use Rattle.fault.specs.declared.kinds.RecordFault.{RecordFault}
use Rattle.line.specs.Meaning.{Rules}
use Rattle.network.specs.Flows.{Flow, Network}
use Rattle.network.proofs.Lists.{At-empty}
use Rattle.sheet.specs.declared.flow.FlowRecord.{FlowRecord}
use Rattle.sheet.specs.declared.port.PortRecord.{PortRecord}
use Rattle.sheet.specs.Flows.{read_flow}
use Rattle.sheet.specs.Ports.{read_port}
use Rattle.sheet.specs.Sheets.{read_at, read_sheet}
use Rattle.planning.specs.Offers.{Recorded, answer, flow}
use Rattle.planning.specs.Promise.{Keeps, IsFew}
use Rattle.planning.specs.Setups.{Setup, Accepted, network}
use Rattle.planning.proofs.Keeps.{keeps-without, offers-keep, few_none, few-without, offers_stay_few}
use Rattle.plan.specs.declared.call.Call.{Call}
use Rattle.plan.specs.declared.call.Call.TheVariants.{SetUp, Offer, Withdraw, StartOf, Flowspan, GateList}
use Rattle.plan.specs.Calls.{Wires, Model, offered, set_up, set_up_answer, offer_answer, withdraw_answer, left}
use Rattle.plan.specs.Steps.{added, next, after}
use Rattle.plan.proofs.Accepted.{set_up-accepted}
use Rattle.plan.proofs.Records.{best-least, flow-recorded, read_at_ok, read_sheet_ok, refused_not-done}

-- the flows that can be held with a set-up, if there is one
abbrev pub SoundHeld : Wires → Option Setup → List Flow → Type 0
SoundHeld w None held = held ≡ []
SoundHeld w (Some c) held = Accepted w.most w.meaning c × Keeps (network w.meaning c) held × IsFew (network w.meaning c) held

-- what a plan can hold
abbrev pub SoundModel : Wires → Model → Type 0
SoundModel w m = SoundHeld w m.setup m.held

-- no flow is held
keeps-none : {net : Network} → Keeps net []
keeps-none = record {
  formed = record { each = λ j f at. absurd (At-empty at); numbers = λ i j f g at. absurd (At-empty at) };
  apart = λ i j f g at. absurd (At-empty at);
}

-- a done set-up was the first, so no flow was held
set_up_sound : (w : Wires) (m : Model) (C : ℕ) (sheet : List ℕ) (c : Setup) → SoundModel w m → set_up_answer w m C sheet ≡ Ok c → SoundHeld w (Some c) m.held
set_up_sound w m C sheet c sound e = go m.setup (read_sheet 8 read_port sheet) refl sound e
  where
    go : (o : Option Setup) (r : Result (List PortRecord) RecordFault) → read_sheet 8 read_port sheet ≡ r → SoundHeld w o m.held →
        ◌≡◌ {A = Result Setup PlanFault} (elim r [ Err f ↦ Err (Record f) | Ok xs ↦ set_up w o C xs ]) (Ok c) → SoundHeld w (Some c) m.held
    go o (Err f) read sound e = refused_not-done e
    go (Some d) (Ok xs) read sound e = refused_not-done e
    go None (Ok xs) read sound e = (
      set_up-accepted w C xs c (read_sheet_ok (λ x. 64 ≤ x.best_effort) 8 read_port best-least sheet xs read) e,
      subst (Keeps (network w.meaning c)) (sym sound) keeps-none,
      subst (IsFew (network w.meaning c)) (sym sound) (few_none (network w.meaning c)),
    )

-- a done offer adds a flow that the network can hold beside the others
offer_sound : (w : Wires) → Rules w.most w.meaning → (m : Model) (sheet : List ℕ) (k s : ℕ) →
    SoundModel w m → offer_answer w m sheet k ≡ Ok s → SoundHeld w m.setup (added w m sheet k s)
offer_sound w rules m sheet k s sound e =
    go m.setup (read_at 21 read_flow k sheet) (read_at_ok (λ x. Recorded (offered x)) 21 read_flow flow-recorded k sheet) sound e
  where
    go : (o : Option Setup) (r : Result FlowRecord RecordFault) → ((x : FlowRecord) → r ≡ Ok x → Recorded (offered x)) → SoundHeld w o m.held →
        ◌≡◌ {A = Result ℕ PlanFault}
        (elim r [ Err f ↦ Err (Record f) | Ok x ↦ elim o [ None ↦ Err NotSetUp | Some c ↦ answer (network w.meaning c) w.most m.held (offered x) ] ]) (Ok s) →
        SoundHeld w o (elim o [ None ↦ m.held | Some c ↦ elim r [ Err _ ↦ m.held | Ok x ↦ flow (network w.meaning c) (offered x) s ∷ m.held ] ])
    go None r recorded sound e = sound
    go (Some c) (Err f) recorded sound e = sound
    go (Some c) (Ok x) recorded (accepted, keeps, few) e = (
      accepted,
      offers-keep w.most w.meaning c rules accepted m.held keeps (offered x) s (recorded x refl) e,
      offers_stay_few w.most (network w.meaning c) m.held few (offered x) s (recorded x refl) e,
    )

-- what is left after a withdrawal
left_sound : (w : Wires) (o : Option Setup) (held : List Flow) (i : ℕ) → SoundHeld w o held → SoundHeld w o (left i held)
left_sound w None held i none = ap (left i) none
left_sound w (Some c) held i (accepted, keeps, few) = (accepted, keeps-without _ held keeps, few-without _ held few)

-- what holds before a call, and of what it leaves where it is done, holds after it
answered : {A : Type 0} (P : Model → Type 0) (m : Model) (r : Result A PlanFault) (done : A → Model) →
    P m → ((x : A) → r ≡ Ok x → P (done x)) → P (elim r [ Ok x ↦ done x | Err _ ↦ m ])
answered P m (Ok x) done same each = each x refl
answered P m (Err f) done same each = same

module _ (w : Wires) (rules : Rules w.most w.meaning) where
  next_sound : (m : Model) (call : Call) → SoundModel w m → SoundModel w (next w m call)
  next_sound m (SetUp C sheet) sound = answered (SoundModel w) m (set_up_answer w m C sheet.now) _ sound (λ c. set_up_sound w m C sheet.now c sound)
  next_sound m (Offer sheet k) sound = answered (SoundModel w) m (offer_answer w m sheet.now k) _ sound (λ s. offer_sound w rules m sheet.now k s sound)
  next_sound m (Withdraw i) sound = answered (SoundModel w) m (withdraw_answer m i) _ sound (λ _ _. left_sound w m.setup m.held i sound)
  next_sound m (StartOf i) sound = sound
  next_sound m Flowspan sound = sound
  next_sound m (GateList q) sound = sound

  pub after_sound : (m : Model) (calls : List Call) → SoundModel w m → SoundModel w (after w m calls)
  after_sound m [] sound = sound
  after_sound m (call ∷ calls) sound = after_sound (next w m call) calls (next_sound m call sound)
