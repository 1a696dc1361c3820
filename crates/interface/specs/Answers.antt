-- The 16 octets of an answer.
-- Assumes nothing.
use Rattle.std.specs.Prelude.{ℕ, List, [], ◌∷◌, ◌++◌, Ok, Err, Result}
use Rattle.fault.specs.declared.kinds.PlanFault.{PlanFault}
use Rattle.fault.specs.declared.refusal.Layer.{Layer}
use Rattle.fault.specs.declared.refusal.Layer.TheVariants.{Sheet, Record, Plan}
use Rattle.fault.specs.declared.refusal.Refusal.{Refusal}
use Rattle.fault.specs.Refusals.{refused}
use Rattle.sheet.specs.Fields.{octets}
use Rattle.plan.specs.declared.call.Reply.{Reply}
use Rattle.plan.specs.declared.call.Reply.TheVariants.{Done, Start, Span, Records}

-- the octet of a layer
abbrev pub layer_octet : Layer → ℕ
layer_octet Sheet = 1
layer_octet Record = 2
layer_octet Plan = 3

-- the octets of a call that was done: what its number is, and its number
abbrev pub done_octets : ℕ → ℕ → List ℕ
done_octets kind n = kind ∷ 0 ∷ 0 ∷ 0 ∷ 0 ∷ 0 ∷ 0 ∷ 0 ∷ octets 8 n

-- the octets of a reply
abbrev pub reply_octets : Reply → List ℕ
reply_octets Done = done_octets 0 0
reply_octets (Start s) = done_octets 1 s
reply_octets (Span s) = done_octets 2 s
reply_octets (Records n) = done_octets 3 n

-- the octets of a refusal: number, layer and place
abbrev pub refusal_octets : Refusal → List ℕ
refusal_octets r = 0xff ∷ r.number ∷ layer_octet r.layer ∷ r.place.hop ∷ (octets 2 r.place.bit ++ (0 ∷ 0 ∷ octets 8 r.place.index))

-- the octets of an answer
abbrev pub answer_octets : Result Reply PlanFault → List ℕ
answer_octets (Ok r) = reply_octets r
answer_octets (Err e) = refusal_octets (refused e)

-- the octets of answers, back to back
abbrev pub answers_octets : List (Result Reply PlanFault) → List ℕ
answers_octets [] = []
answers_octets (x ∷ xs) = answer_octets x ++ answers_octets xs
