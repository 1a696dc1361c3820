-- The records of the worked case.
-- Assumes nothing.
use Rattle.std.specs.Prelude.{List, [], ◌∷◌, Some, None}
use Rattle.sheet.specs.declared.flow.FlowRecord.{FlowRecord}
use Rattle.sheet.specs.declared.port.PortRecord.{PortRecord}

-- a port with delays of 100 and 1,000 ns and best-effort frames of up to 1,522 octets
abbrev pub port : PortRecord
port = record { delay = 100; processing = 1_000; best_effort = 1_522 }

-- flows 7 and 9, which fit, flow 11, whose period does not divide the cycle, and flow 13, whose chosen start is taken
abbrev pub flows : List FlowRecord
flows =
    record { number = 7; length = 100; period = 500_000; deadline = 20_000; start = None; hops = 2; ports = 0 ∷ 1 ∷ 0 ∷ 0 ∷ 0 ∷ 0 ∷ 0 ∷ 0 ∷ [] }
    ∷ record { number = 9; length = 1_000; period = 1_000_000; deadline = 20_000; start = None; hops = 1; ports = 1 ∷ 0 ∷ 0 ∷ 0 ∷ 0 ∷ 0 ∷ 0 ∷ 0 ∷ [] }
    ∷ record { number = 11; length = 64; period = 300_000; deadline = 20_000; start = None; hops = 1; ports = 0 ∷ 0 ∷ 0 ∷ 0 ∷ 0 ∷ 0 ∷ 0 ∷ 0 ∷ [] }
    ∷ record { number = 13; length = 100; period = 500_000; deadline = 20_000; start = Some 10_891; hops = 1; ports = 1 ∷ 0 ∷ 0 ∷ 0 ∷ 0 ∷ 0 ∷ 0 ∷ 0 ∷ [] }
    ∷ []
