-- The Ethernet line of rate codes.
-- Assumes nothing.
use Rattle.std.specs.Prelude.{ℕ, Bool, cond, not, ◌&&◌, ◌||◌, List, length, Ok, Err, Result, nat_le, nat_lt}
use Rattle.fault.specs.declared.kinds.PlanFault.{PlanFault}
use Rattle.fault.specs.declared.kinds.PlanFault.TheVariants.{Filling}
use Rattle.line.specs.declared.ethernet.Ethernet.{Ethernet}
use Rattle.line.specs.Codes.{coded as meaning_of}
use Rattle.line.specs.Kinds.{ethernet_meaning}
use Rattle.planning.specs.Lists.{any}
use Rattle.plan.specs.Calls.{Wires}
use Rattle.plan.specs.Models.{wires}

-- an Ethernet line, as the calls of a plan see it
abbrev pub wired : Ethernet → Wires
wired line = wires 1522 (ethernet_meaning line)

-- an Ethernet line whose ports have these rate codes, as the calls of a plan see it
abbrev pub coded : List ℕ → Wires
coded cs = wires 1522 (meaning_of cs)

-- from 1 to 32 rate codes, each 1, 2 or 3
abbrev pub are_codes : List ℕ → Bool
are_codes cs = nat_le 1 (length cs) && (nat_le (length cs) 32 && not (any (λ c. nat_lt c 1 || nat_lt 3 c) cs))

-- the line of rate codes, or the refusal of its filling
abbrev pub line : List ℕ → Result Wires PlanFault
line cs = cond (are_codes cs) (Ok (coded cs)) (Err Filling)
