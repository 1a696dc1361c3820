-- The line of a record of calls: the call's name, and what it answered.
-- Assumes nothing.
use Rattle.std.specs.Prelude.{ℕ, List, ◌++◌, Ok, Err, codes, decimal, Result}
use Rattle.fault.specs.declared.kinds.PlanFault.{PlanFault}
use Rattle.fault.specs.Refusals.{refused}
use Rattle.fault.specs.Sentences.{sentence}
use Rattle.plan.specs.declared.call.Reply.{Reply}
use Rattle.plan.specs.declared.call.Reply.TheVariants.{Done, Start, Span, Records}

-- the line for a call that was done
abbrev pub reply_text : List ℕ → Reply → List ℕ
reply_text name Done = name ++ codes ": done"
reply_text name (Start s) = name ++ (codes ": start " ++ decimal s)
reply_text name (Span s) = name ++ (codes ": " ++ (decimal s ++ codes " ns"))
reply_text name (Records n) = name ++ (codes ": " ++ (decimal n ++ codes " records"))

-- the line for a call that was refused
abbrev pub fault_text : List ℕ → PlanFault → List ℕ
fault_text name e = name ++ (codes ": refused " ++ (decimal (refused e).number ++ (codes ": " ++ sentence e)))

-- the line for an answer
abbrev pub answer_text : List ℕ → Result Reply PlanFault → List ℕ
answer_text name (Ok reply) = reply_text name reply
answer_text name (Err e) = fault_text name e
