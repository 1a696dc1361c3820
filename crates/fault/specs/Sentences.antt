-- The sentence that each fault prints, in octets.
-- Assumes nothing.
use Rattle.std.specs.Prelude.{ℕ, List, [], ◌++◌, codes, decimal}
use Rattle.fault.specs.declared.kinds.PlanFault.{PlanFault}
use Rattle.fault.specs.declared.kinds.PlanFault.TheVariants.{Record, SetUpTwice, NotSetUp, Filling, Cycle, PortCount, BestEffort, NumberHeld, Full, NotHeld, NoPort, Period, Route, Length, WireTime, Deadline, Start, Taken, NoStart, Buffer}
use Rattle.fault.specs.declared.kinds.RecordFault.TheVariants.{Sheet, NotZero, OutOfLimits}
use Rattle.fault.specs.declared.kinds.SheetFault.TheVariants.{Unfinished}

-- the sentence of a fault that has no place, and nothing for one that has
abbrev pub advice : PlanFault → List ℕ
advice (Record e) = []
advice SetUpTwice = codes "the plan is set up already: make a new plan for another cycle or other ports"
advice NotSetUp = codes "the plan is not set up: set it up first"
advice Filling = codes "the line takes 1 to 32 ports and figures within their limits"
advice Cycle = codes "the cycle must be from 1000 to 1000000000 ns"
advice PortCount = codes "the port sheet must have one record for each port of the line"
advice BestEffort = codes "a largest best-effort length is above the largest frame of the line"
advice NumberHeld = codes "a flow with this number is held: withdraw it or choose another number"
advice Full = codes "the plan holds 64 flows: withdraw one first"
advice NotHeld = codes "no flow with this number is held"
advice NoPort = codes "the plan has no port with this number"
advice Period = codes "the period must divide the cycle, which may hold at most 16 periods"
advice (Route h) = []
advice Length = codes "the length is above the largest frame of the line"
advice (WireTime h) = []
advice Deadline = codes "the route takes longer than the deadline: shorten the route or allow more time"
advice Start = codes "the chosen start must be below the period"
advice Taken = codes "at the chosen start a frame would wait: choose another start, or none"
advice NoStart = codes "at every start below the period a frame would wait: withdraw a flow or change the route"
advice Buffer = codes "the buffer is too short for the records: lend a longer one"

-- the sentence of each fault
abbrev pub sentence : PlanFault → List ℕ
sentence (Record (Sheet (Unfinished k))) = codes "record " ++ (decimal k ++ codes " does not lie whole in its sheet: lengthen the sheet or ask for an earlier record")
sentence (Record (NotZero k b)) = codes "record " ++ (decimal k ++ (codes ": the field at bit " ++ (decimal b ++ codes " must be zero")))
sentence (Record (OutOfLimits k b)) = codes "record " ++ (decimal k ++ (codes ": the field at bit " ++ (decimal b ++ codes " is outside its limits")))
sentence SetUpTwice = advice SetUpTwice
sentence NotSetUp = advice NotSetUp
sentence Filling = advice Filling
sentence Cycle = advice Cycle
sentence PortCount = advice PortCount
sentence BestEffort = advice BestEffort
sentence NumberHeld = advice NumberHeld
sentence Full = advice Full
sentence NotHeld = advice NotHeld
sentence NoPort = advice NoPort
sentence Period = advice Period
sentence (Route h) = codes "hop " ++ (decimal h ++ codes ": its port is not a port of the plan, or stands earlier in the route")
sentence Length = advice Length
sentence (WireTime h) = codes "hop " ++ (decimal h ++ codes ": a frame takes longer on the wire than the period")
sentence Deadline = advice Deadline
sentence Start = advice Start
sentence Taken = advice Taken
sentence NoStart = advice NoStart
sentence Buffer = advice Buffer
