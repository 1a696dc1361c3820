-- The promise after every list of calls: what a plan holds then is sound, and has the promise of its network.
-- Assumes nothing.
use Rattle.std.proofs.Common.{◌≡◌, ℕ, ◌≤◌, List, [], length, Some, None, Ok, Err, Option, Result, refl, ap, ◌∙◌}
use Rattle.fault.specs.declared.kinds.PlanFault.{PlanFault}
use Rattle.fault.specs.declared.kinds.PlanFault.TheVariants.{Record, NotSetUp}
use Rattle.fault.specs.declared.kinds.RecordFault.{RecordFault}
use Rattle.line.specs.Meaning.{Rules}
use Rattle.sheet.specs.declared.flow.FlowRecord.{FlowRecord}
use Rattle.sheet.specs.Flows.{read_flow}
use Rattle.sheet.specs.Sheets.{read_at}
use Rattle.planning.specs.Gates.{gates}
use Rattle.planning.specs.Offers.{Recorded, answer}
use Rattle.planning.specs.Promise.{Keeps}
use Rattle.planning.specs.Setups.{Setup, Accepted, network}
use Rattle.planning.proofs.GateCounts.{gates-length}
use Rattle.planning.proofs.Promise.{promised}
use Rattle.plan.specs.Calls.{Wires, Model, empty, offered, offer, offer_answer}
use Rattle.plan.specs.Promise.{Assured, Assures, AlwaysAssured, ListsFit, ListsAlwaysFit}
use Rattle.plan.specs.Steps.{after}
use Rattle.plan.proofs.Records.{flow-recorded, read_at_ok}
use Rattle.plan.proofs.Sound.{SoundHeld, SoundModel, after_sound}

-- a plan that is set up answers the offer of a record that it accepts
offer-answered : (w : Wires) (m : Model) (c : Setup) (sheet : List ℕ) (k : ℕ) (x : FlowRecord) → m.setup ≡ Some c → read_at 21 read_flow k sheet ≡ Ok x →
    offer_answer w m sheet k ≡ answer (network w.meaning c) w.most m.held (offered x)
offer-answered w m c sheet k x ready read =
    ap answered read
    ∙ ap (λ (o : Option Setup). elim o [ None ↦ Err NotSetUp | Some c ↦ answer (network w.meaning c) w.most m.held (offered x) ]) ready
  where
    answered : Result FlowRecord RecordFault → Result ℕ PlanFault
    answered r = elim r [ Err f ↦ Err (Record f) | Ok x ↦ offer w m x ]

-- a plan that is set up and holds flows that its network can hold is assured
assured : (w : Wires) → Rules w.most w.meaning → (m : Model) (c : Setup) → m.setup ≡ Some c →
    Accepted w.most w.meaning c → Keeps (network w.meaning c) m.held → Assured w m c
assured w rules m c ready accepted keeps =
    let promise = promised w.most w.meaning c rules accepted m.held keeps in
    let recorded = read_at_ok (λ x. Recorded (offered x)) 21 read_flow flow-recorded in
    record {
      accepted = accepted;
      runs = promise.runs;
      answers = λ sheet k x. offer-answered w m c sheet k x ready;
      chosen = λ sheet k x s read chosen. promise.chosen (offered x) s (recorded k sheet x read) chosen;
      free = λ sheet k x read free. promise.free (offered x) (recorded k sheet x read) free;
    }

sound_assures : (w : Wires) → Rules w.most w.meaning → (m : Model) → SoundModel w m → Assures w m
sound_assures w rules m sound = go m.setup refl sound
  where
    go : (o : Option Setup) → m.setup ≡ o → SoundHeld w o m.held → elim o as (λ (_ : Option Setup). Type 0) [ None ↦ m.held ≡ [] | Some c ↦ Assured w m c ]
    go None is none = none
    go (Some c) is (accepted, keeps, few) = assured w rules m c is accepted keeps

-- and its gate lists are short
sound_lists : (w : Wires) (m : Model) → SoundModel w m → ListsFit w m
sound_lists w m sound = go m.setup sound
  where
    go : (o : Option Setup) → SoundHeld w o m.held → elim o as (λ (_ : Option Setup). Type 0) [
      | None ↦ Unit {0}
      | Some c ↦ (q : ℕ) → length (gates (network w.meaning c) m.held q) ≤ 3073
    ]
    go None none = tt
    go (Some c) (accepted, keeps, few) = λ q. gates-length (network w.meaning c) m.held q keeps.formed few.few few.room

pub always-assured : AlwaysAssured
always-assured w rules calls = sound_assures w rules (after w empty calls) (after_sound w rules empty calls refl)

pub lists_always_fit : ListsAlwaysFit
lists_always_fit w rules calls = sound_lists w (after w empty calls) (after_sound w rules empty calls refl)
