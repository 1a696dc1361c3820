-- The port record, 8 octets: its fields by first bit and bits, and their limits.
-- Assumes nothing.
use Rattle.std.specs.Prelude.{ℕ, List, [], ◌∷◌, Result}
use Rattle.fault.specs.declared.kinds.RecordFault.{RecordFault}
use Rattle.sheet.specs.declared.limited.Limited.{Limited}
use Rattle.sheet.specs.declared.port.PortRecord.{PortRecord}
use Rattle.sheet.specs.Fields.{field, octets, packed, Part, part}
use Rattle.sheet.specs.Limits.{from_to, zero_at, judged, accepted, exactly}

-- the record that the octets hold
abbrev pub port_of : List ℕ → PortRecord
port_of s = record { delay = field 8 0 17 s; processing = field 8 17 20 s; best_effort = field 8 37 14 s }

-- the limits of its fields
abbrev pub port_limits : PortRecord → List Limited
port_limits x =
    from_to 0 x.delay 0 100_000
    ∷ from_to 17 x.processing 0 1_000_000
    ∷ from_to 37 x.best_effort 64 9_600
    ∷ []

-- its spare bits
abbrev pub port_spare : List ℕ → List Limited
port_spare s = zero_at 51 (field 8 51 13 s) ∷ []

-- record k of a sheet, from its octets
abbrev pub read_port : ℕ → List ℕ → Result PortRecord RecordFault
read_port k s = exactly 8 k s (accepted (judged k (port_spare s) (port_limits (port_of s))) (port_of s))

-- record k, to be written
abbrev pub judge_port : ℕ → PortRecord → Result (Unit {0}) RecordFault
judge_port k x = judged k [] (port_limits x)

-- its fields by bits, first to last
abbrev pub port_parts : PortRecord → List Part
port_parts x = part 17 x.delay ∷ part 20 x.processing ∷ part 14 x.best_effort ∷ part 13 0 ∷ []

-- its octets
abbrev pub written_port : PortRecord → List ℕ
written_port x = octets 8 (packed (port_parts x))
