-- The gate record, 5 octets: its fields by first bit and bits, its states and its limits.
-- Assumes nothing.
use Rattle.std.specs.Prelude.{◌≡◌, ◌≢◌, ℕ, cond, List, [], ◌∷◌, Result, MatchResult, ◌==◌}
use Rattle.fault.specs.declared.kinds.RecordFault.{RecordFault}
use Rattle.sheet.specs.declared.limited.Limited.{Limited}
use Rattle.sheet.specs.declared.gate.GateRecord.{GateRecord}
use Rattle.sheet.specs.declared.gate.GateState.{GateState}
use Rattle.sheet.specs.declared.gate.UnknownState.{UnknownState}
use Rattle.sheet.specs.declared.gate.GateState.TheVariants.{Scheduled, BestEffort, Closed}
use Rattle.sheet.specs.Fields.{field, octets, packed, Part, part}
use Rattle.sheet.specs.Limits.{from_to, zero_at, judged, accepted, exactly}

-- the octet of a state
abbrev pub octet_of : GateState → ℕ
octet_of Scheduled = 0x80
octet_of BestEffort = 0x7f
octet_of Closed = 0x00

-- the state of an octet: what is neither of the first two can only be the third
abbrev pub state_of : ℕ → GateState
state_of n = cond (n == 0x80) Scheduled (cond (n == 0x7f) BestEffort Closed)

-- the state is the one of the octet, or no state has the octet
abbrev pub IsStateOf : ℕ → Result GateState UnknownState → Type 0
IsStateOf n r = MatchResult r (λ state. octet_of state ≡ n) (λ e. (e.0 ≡ n) × ((state : GateState) → octet_of state ≢ n))

-- the record that the octets hold
abbrev pub gate_of : List ℕ → GateRecord
gate_of s = record { state = state_of (field 5 0 8 s); duration = field 5 10 30 s }

-- its spare bits
abbrev pub gate_spare : List ℕ → List Limited
gate_spare s = zero_at 8 (field 5 8 2 s) ∷ []

-- the limits of its fields: the state octet n has to be the octet of the state
abbrev pub gate_limits : ℕ → GateRecord → List Limited
gate_limits n x = from_to 0 n (octet_of x.state) (octet_of x.state) ∷ from_to 10 x.duration 1 1_000_000_000 ∷ []

-- record k of a sheet, from its octets
abbrev pub read_gate : ℕ → List ℕ → Result GateRecord RecordFault
read_gate k s = exactly 5 k s (accepted (judged k (gate_spare s) (gate_limits (field 5 0 8 s) (gate_of s))) (gate_of s))

-- record k, to be written
abbrev pub judge_gate : ℕ → GateRecord → Result (Unit {0}) RecordFault
judge_gate k x = judged k [] (gate_limits (octet_of x.state) x)

-- its fields by bits, first to last
abbrev pub gate_parts : GateRecord → List Part
gate_parts x = part 8 (octet_of x.state) ∷ part 2 0 ∷ part 30 x.duration ∷ []

-- its octets
abbrev pub written_gate : GateRecord → List ℕ
written_gate x = octets 5 (packed (gate_parts x))
