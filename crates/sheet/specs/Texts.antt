-- The text that each record prints, in octets.
-- Assumes nothing.
use Rattle.std.specs.Prelude.{ℕ, List, [], ◌∷◌, ◌++◌, take, Some, None, Option, codes, decimal}
use Rattle.sheet.specs.declared.flow.FlowRecord.{FlowRecord}
use Rattle.sheet.specs.declared.gate.GateRecord.{GateRecord}
use Rattle.sheet.specs.declared.gate.GateState.{GateState}
use Rattle.sheet.specs.declared.gate.GateState.TheVariants.{Scheduled, BestEffort, Closed}
use Rattle.sheet.specs.declared.port.PortRecord.{PortRecord}

-- a start: free, or its instant
abbrev pub start_text : Option ℕ → List ℕ
start_text (Some v) = decimal v ++ codes " ns"
start_text None = codes "free"

-- ports, each behind a space
abbrev pub route_text : List ℕ → List ℕ
route_text [] = []
route_text (q ∷ qs) = codes " " ++ (decimal q ++ route_text qs)

-- a flow with the ports before its hop count
abbrev pub flow_text : FlowRecord → List ℕ
flow_text x =
    codes "flow "
    ++ (decimal x.number
    ++ (codes ": length "
    ++ (decimal x.length
    ++ (codes ", period "
    ++ (decimal x.period
    ++ (codes " ns, deadline "
    ++ (decimal x.deadline
    ++ (codes " ns, start "
    ++ (start_text x.start
    ++ (codes ", route" ++ route_text (take x.hops x.ports)))))))))))

-- the octet of a gate state, in hexadecimal
abbrev pub state_text : GateState → List ℕ
state_text Scheduled = codes "80"
state_text BestEffort = codes "7F"
state_text Closed = codes "00"

abbrev pub gate_text : GateRecord → List ℕ
gate_text x = codes "gates " ++ (state_text x.state ++ (codes " for " ++ (decimal x.duration ++ codes " ns")))

abbrev pub port_text : PortRecord → List ℕ
port_text x =
    codes "port: propagation "
    ++ (decimal x.delay
    ++ (codes " ns, processing "
    ++ (decimal x.processing
    ++ (codes " ns, best effort up to "
    ++ (decimal x.best_effort ++ codes " octets")))))
