-- Gate lists as gate records of a sheet, their octets, and what a call that writes them answers.
-- Assumes nothing.
use Rattle.std.specs.Prelude.{ℕ, ◌*◌, cond, List, map, Ok, Err, Result, nat_le}
use Rattle.fault.specs.declared.kinds.PlanFault.{PlanFault}
use Rattle.fault.specs.declared.kinds.PlanFault.TheVariants.{Buffer}
use Rattle.sheet.specs.declared.gate.GateRecord.{GateRecord}
use Rattle.sheet.specs.Gates.{octet_of, state_of, written_gate}
use Rattle.sheet.specs.Sheets.{written_sheet}
use Rattle.network.specs.Gates.{Gate}

-- the state and the duration of a gate record of a sheet
abbrev pub gate : GateRecord → Gate
gate x = record { state = octet_of x.state; duration = x.duration }

-- the gate record of a state and its duration
abbrev pub gate_record : Gate → GateRecord
gate_record e = record { state = state_of e.state; duration = e.duration }

-- the octets of gate records, 5 each
abbrev pub gate_octets : List Gate → List ℕ
gate_octets es = written_sheet written_gate (map gate_record es)

-- n gate records into a buffer of l octets
abbrev pub count_answer : ℕ → ℕ → Result ℕ PlanFault
count_answer n l = cond (nat_le (5 * n) l) (Ok n) (Err Buffer)
