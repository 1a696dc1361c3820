-- What is promised after every list of calls, on every line that keeps the rules.
-- Assumes nothing.
use Rattle.std.specs.Prelude.{◌≡◌, ℕ, ◌<◌, ◌≤◌, List, [], length, Some, None, Ok}
use Rattle.line.specs.Meaning.{Rules}
use Rattle.sheet.specs.declared.flow.FlowRecord.{FlowRecord}
use Rattle.sheet.specs.Flows.{read_flow}
use Rattle.sheet.specs.Sheets.{read_at}
use Rattle.planning.specs.Gates.{gates}
use Rattle.planning.specs.Offers.{answer, refusal}
use Rattle.planning.specs.Promise.{NoneWaits, ChosenExactly, EarliestExactly}
use Rattle.planning.specs.Setups.{Setup, Accepted, network}
use Rattle.plan.specs.declared.call.Call.{Call}
use Rattle.plan.specs.Calls.{Wires, Model, empty, offered, offer_answer}
use Rattle.plan.specs.Steps.{after}

-- of a plan that is set up and holds these flows, on the network of its line and its set-up:
-- (a) in every run under its gate lists each scheduled frame begins at each port the instant it is ready there and arrives within its deadline, and there are such runs;
-- and of a further flow, record x at index k of a sheet, that falls under no earlier refusal:
-- (b) with a chosen start it is refused exactly when with the flow added at that start some frame would wait in some run;
-- (c) with none it is refused exactly when at every start below its period some frame would wait in some run, and else gets the smallest start at which none would in any
pub record Assured (w : Wires) (m : Model) (c : Setup) : Type 0 where
  pub accepted : Accepted w.most w.meaning c
  pub runs : NoneWaits (network w.meaning c) m.held
  pub answers : (sheet : List ℕ) (k : ℕ) (x : FlowRecord) → read_at 21 read_flow k sheet ≡ Ok x →
      offer_answer w m sheet k ≡ answer (network w.meaning c) w.most m.held (offered x)
  pub chosen : (sheet : List ℕ) (k : ℕ) (x : FlowRecord) (s : ℕ) → read_at 21 read_flow k sheet ≡ Ok x → x.start ≡ Some s → s < x.period →
      refusal (network w.meaning c) w.most m.held (offered x) ≡ None → ChosenExactly (network w.meaning c) w.most m.held (offered x) s
  pub free : (sheet : List ℕ) (k : ℕ) (x : FlowRecord) → read_at 21 read_flow k sheet ≡ Ok x → x.start ≡ None →
      refusal (network w.meaning c) w.most m.held (offered x) ≡ None → EarliestExactly (network w.meaning c) w.most m.held (offered x)

-- what a plan holds is assured; one that is not set up holds no flow
abbrev pub Assures : Wires → Model → Type 0
Assures w m = elim m.setup [ None ↦ m.held ≡ [] | Some c ↦ Assured w m c ]

-- after every list of calls on a plan made on a line that keeps the rules
abbrev pub AlwaysAssured : Type 0
AlwaysAssured = (w : Wires) → Rules w.most w.meaning → (calls : List Call) → Assures w (after w empty calls)

-- each gate list of a plan that is set up has at most 3,073 records, 15,365 octets
abbrev pub ListsFit : Wires → Model → Type 0
ListsFit w m = elim m.setup [ None ↦ Unit {0} | Some c ↦ (q : ℕ) → length (gates (network w.meaning c) m.held q) ≤ 3073 ]

-- after every list of calls on a plan made on a line that keeps the rules
abbrev pub ListsAlwaysFit : Type 0
ListsAlwaysFit = (w : Wires) → Rules w.most w.meaning → (calls : List Call) → ListsFit w (after w empty calls)
