-- The flow record, 21 octets: its fields by first bit and bits, and their limits.
-- Assumes nothing.
use Rattle.std.specs.Prelude.{ℕ, cond, min, List, [], ◌∷◌, ◌++◌, length, map, Some, None, Err, Option, Result, ◌==◌, nat_lt, slice_index}
use Rattle.std.specs.Bool.{then_some}
use Rattle.std.specs.List.{range_with_len}
use Rattle.fault.specs.declared.kinds.RecordFault.{RecordFault}
use Rattle.fault.specs.declared.kinds.RecordFault.TheVariants.{OutOfLimits}
use Rattle.sheet.specs.declared.limited.Limited.{Limited}
use Rattle.sheet.specs.declared.flow.FlowRecord.{FlowRecord}
use Rattle.sheet.specs.Fields.{field, octets, packed, Part, part}
use Rattle.sheet.specs.Limits.{from_to, zero_at, judged, accepted, exactly}

-- whether a start is chosen, as its bit
abbrev pub chosen_bit : Option ℕ → ℕ
chosen_bit (Some v) = 1
chosen_bit None = 0

-- the start field of a start
abbrev pub start_field : Option ℕ → ℕ
start_field (Some v) = v
start_field None = 0

-- the start of a bit and a start field
abbrev pub start_of : ℕ → ℕ → Option ℕ
start_of c v = then_some (c == 1) v

-- what must be zero of a start field v: all of it where no start is chosen
abbrev pub idle_start : Option ℕ → ℕ → ℕ
idle_start (Some _) v = 0
idle_start None v = v

-- the record that the octets hold
abbrev pub flow_of : List ℕ → FlowRecord
flow_of s =
    record {
      number = field 21 0 16 s;
      length = field 21 16 14 s;
      period = field 21 30 30 s;
      deadline = field 21 60 30 s;
      start = start_of (field 21 90 1 s) (field 21 91 30 s);
      hops = field 21 121 4 s;
      ports =
          field 21 125 5 s ∷ field 21 130 5 s ∷ field 21 135 5 s ∷ field 21 140 5 s
          ∷ field 21 145 5 s ∷ field 21 150 5 s ∷ field 21 155 5 s ∷ field 21 160 5 s ∷ [];
    }

-- the hop count of a route: nine where it is longer than eight ports
abbrev pub hop_count : List ℕ → ℕ
hop_count route = min (length route) 9

-- the port slots of a route: its ports first, the rest zero
abbrev pub port_slots : List ℕ → List ℕ
port_slots route = map (slice_index route) (range_with_len 0 8)

-- the record of a flow of number n, length l, period T and deadline D over a route, with no start chosen
abbrev pub free_flow : ℕ → ℕ → ℕ → ℕ → List ℕ → FlowRecord
free_flow n l T D route =
    record { number = n; length = l; period = T; deadline = D; start = None; hops = hop_count route; ports = port_slots route }

-- what a port slot holds before the hop count
abbrev pub used : FlowRecord → ℕ → ℕ
used x i = cond (nat_lt i x.hops) (slice_index x.ports i) 0

-- what a port slot holds from the hop count on
abbrev pub unused : FlowRecord → ℕ → ℕ
unused x i = cond (nat_lt i x.hops) 0 (slice_index x.ports i)

-- what must be zero: a start v that is not chosen, the unused port slots, the spare bits n
abbrev pub flow_zeros : ℕ → ℕ → FlowRecord → List Limited
flow_zeros v n x =
    zero_at 91 v
    ∷ zero_at 125 (unused x 0)
    ∷ zero_at 130 (unused x 1)
    ∷ zero_at 135 (unused x 2)
    ∷ zero_at 140 (unused x 3)
    ∷ zero_at 145 (unused x 4)
    ∷ zero_at 150 (unused x 5)
    ∷ zero_at 155 (unused x 6)
    ∷ zero_at 160 (unused x 7)
    ∷ zero_at 165 n
    ∷ []

-- the limits of its fields
abbrev pub flow_limits : FlowRecord → List Limited
flow_limits x =
    from_to 0 x.number 1 65_535
    ∷ from_to 16 x.length 64 9_600
    ∷ from_to 30 x.period 1 1_000_000_000
    ∷ from_to 60 x.deadline 1 1_000_000_000
    ∷ from_to 91 (start_field x.start) 0 999_999_999
    ∷ from_to 121 x.hops 1 8
    ∷ from_to 125 (used x 0) 0 31
    ∷ from_to 130 (used x 1) 0 31
    ∷ from_to 135 (used x 2) 0 31
    ∷ from_to 140 (used x 3) 0 31
    ∷ from_to 145 (used x 4) 0 31
    ∷ from_to 150 (used x 5) 0 31
    ∷ from_to 155 (used x 6) 0 31
    ∷ from_to 160 (used x 7) 0 31
    ∷ []

-- record k of a sheet, from its octets
abbrev pub read_flow : ℕ → List ℕ → Result FlowRecord RecordFault
read_flow k s =
    exactly 21 k s
    (accepted
    (judged k (flow_zeros (idle_start (flow_of s).start (field 21 91 30 s)) (field 21 165 3 s) (flow_of s)) (flow_limits (flow_of s)))
    (flow_of s))

-- a record has eight port slots: no value of its type has another number
abbrev pub eight : ℕ → List ℕ → Result (Unit {0}) RecordFault → Result (Unit {0}) RecordFault
eight k ports r = cond (length ports == 8) r (Err (OutOfLimits k 125))

-- record k, to be written
abbrev pub judge_flow : ℕ → FlowRecord → Result (Unit {0}) RecordFault
judge_flow k x = eight k x.ports (judged k (flow_zeros 0 0 x) (flow_limits x))

-- its fields by bits before the route, first to last
abbrev pub head_parts : FlowRecord → List Part
head_parts x =
    part 16 x.number
    ∷ part 14 x.length
    ∷ part 30 x.period
    ∷ part 30 x.deadline
    ∷ part 1 (chosen_bit x.start)
    ∷ part 30 (start_field x.start)
    ∷ part 4 x.hops
    ∷ []

-- the eight port slots by bits
abbrev pub route_parts : List ℕ → List Part
route_parts ports =
    part 5 (slice_index ports 0)
    ∷ part 5 (slice_index ports 1)
    ∷ part 5 (slice_index ports 2)
    ∷ part 5 (slice_index ports 3)
    ∷ part 5 (slice_index ports 4)
    ∷ part 5 (slice_index ports 5)
    ∷ part 5 (slice_index ports 6)
    ∷ part 5 (slice_index ports 7)
    ∷ []

-- all its fields, with the spare bits
abbrev pub flow_parts : FlowRecord → List Part
flow_parts x = head_parts x ++ (route_parts x.ports ++ (part 3 0 ∷ []))

-- its octets
abbrev pub written_flow : FlowRecord → List ℕ
written_flow x = octets 21 (packed (flow_parts x))
