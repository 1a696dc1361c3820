-- What octets that say calls come to on a new plan: the number that is returned, and what the answers and the buffer hold then.
-- Assumes nothing.
use Rattle.std.specs.Prelude.{◌≡◌, ℕ, ◌*◌, cond, List, [], ◌++◌, map, length, drop, ℤ, pos, negsuc, Some, None, Ok, Err, Option, Result, nat_le}
use Rattle.plan.specs.declared.call.Call.{Call}
use Rattle.plan.specs.Calls.{Wires, empty}
use Rattle.plan.specs.Promise.{Assures, ListsFit}
use Rattle.plan.specs.Steps.{after, replies, buffered}
use Rattle.interface.specs.declared.performed.Performed.{Performed}
use Rattle.interface.specs.declared.unperformed.Unperformed.{Unperformed}
use Rattle.interface.specs.declared.unperformed.Unperformed.TheVariants.{Line, Calls, Room}
use Rattle.interface.specs.Answers.{answers_octets}
use Rattle.interface.specs.Spoken.{Spoken, call, calls_of}

-- what is returned for a number of calls, and for why none is performed
abbrev pub returned_number : Result Performed Unperformed → ℤ
returned_number (Ok performed) = pos performed.count
returned_number (Err Line) = negsuc 0
returned_number (Err Calls) = negsuc 1
returned_number (Err Room) = negsuc 2

-- what is returned, and what the answers and the buffer hold then
pub record Outcome : Type 0 where
  pub returned : ℤ
  pub answers : List ℕ
  pub buffer : List ℕ

-- this returned, with these octets in the answers and in the buffer
abbrev pub came_to : ℤ → List ℕ → List ℕ → Outcome
came_to n answers buffer = record { returned = n; answers = answers; buffer = buffer }

-- calls on a new plan: their answers at the front, and the gate list that was answered last at the front of the buffer
abbrev pub done : Wires → List Call → List ℕ → List ℕ → Outcome
done w cs answers buffer = came_to (pos (length cs)) (answers_octets (replies w empty (length buffer) cs) ++ drop (16 * length cs) answers) (buffered w empty buffer cs)

-- −2 where there is no list of calls, −3 where the answers have no room, with nothing written, and else the calls
abbrev pub performed : Wires → Option (List Spoken) → List ℕ → List ℕ → Outcome
performed w None answers buffer = came_to (negsuc 1) answers buffer
performed w (Some cs) answers buffer = cond (nat_le (16 * length cs) (length answers)) (done w (map call cs) answers buffer) (came_to (negsuc 2) answers buffer)

-- what octets come to
abbrev pub outcome : Wires → List ℕ → List ℕ → List ℕ → Outcome
outcome w octets answers buffer = performed w (calls_of octets) answers buffer

-- the calls of a list, if it is one
abbrev pub calls : Option (List Spoken) → List Call
calls None = []
calls (Some cs) = map call cs

-- the calls that octets say, and none where they are no list of calls
abbrev pub said : List ℕ → List Call
said octets = calls (calls_of octets)

-- what octets came to on a new plan on a line is their outcome, what the plan holds after them is assured, and none of its gate lists is longer than 3,073 records
pub record Performs (w : Wires) (octets answers buffer : List ℕ) (came : Outcome) : Type 0 where
  pub outcome : came ≡ outcome w octets answers buffer
  pub assured : Assures w (after w empty (said octets))
  pub lists : ListsFit w (after w empty (said octets))
