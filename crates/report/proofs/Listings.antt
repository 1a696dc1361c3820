-- A listing, line by line.
-- Assumes nothing.
use Rattle.std.proofs.Common.{◌≡◌, ℕ, zero, suc, ◌+◌, ◌<◌, List, [], ◌∷◌, ◌++◌, length, get_or, drop, Result, sym, refl, ap, ◌∙◌, add-one, Bor}
use Rattle.std.proofs.lemmas.List.{at_drop_more}
use Rattle.fault.specs.declared.kinds.PlanFault.{PlanFault}
use Rattle.plan.specs.declared.call.Reply.{Reply}
use Rattle.plan.specs.declared.call.Call.TheVariants.{SetUp, Offer, Flowspan}
use Rattle.plan.specs.Calls.{Wires, Model, empty}
use Rattle.plan.specs.Steps.{after, next, reply, replies}
use Rattle.report.specs.declared.input.Input.{Input}
use Rattle.report.specs.Inputs.{cycle, port_sheet, flow_sheet, records, offers, calls}
use Rattle.report.specs.Runs.{Parts}
use Rattle.report.specs.Listings.{number_of, answer_line, answer_lines, at, answers}

module _ (flows : List ℕ) (told : List (Result Reply PlanFault)) where
  -- the lines from answer i on begin with its line
  pub lines_next : (d : Result Reply PlanFault) (i : ℕ) → i < length told →
      answer_lines flows i (drop i told) ≡ answer_line (number_of flows i) (get_or told i d) ++ answer_lines flows (i + 1) (drop (i + 1) told)
  lines_next d i within =
      at_drop_more (answer_lines flows i) told i d within
      ∙ ap (λ (k : ℕ). answer_line (number_of flows i) (get_or told i d) ++ answer_lines flows k (drop (i + 1) told)) (sym (add-one i))

-- where octets lie does not matter to the answers to offers, nor to what a plan holds after them
replies-at : (w : Wires) (m : Model) (sheet : Bor (List ℕ)) (n k : ℕ) → replies w m 0 (offers sheet n k ++ (Flowspan ∷ [])) ≡ replies w m 0 (offers (at sheet.now) n k ++ (Flowspan ∷ []))
replies-at w m sheet zero k = refl
replies-at w m sheet (suc n) k = ap (λ (rs : List (Result Reply PlanFault)). reply w m 0 (Offer sheet k) ∷ rs) (replies-at w (next w m (Offer sheet k)) sheet n (suc k))

after-at : (w : Wires) (m : Model) (sheet : Bor (List ℕ)) (n k : ℕ) → after w m (offers sheet n k ++ (Flowspan ∷ [])) ≡ after w m (offers (at sheet.now) n k ++ (Flowspan ∷ []))
after-at w m sheet zero k = refl
after-at w m sheet (suc n) k = after-at w (next w m (Offer sheet k)) sheet n (suc k)

module _ (s : List ℕ) (x : Input) (parts : Parts s x) where
  -- the answers to the calls of an input, by its octets
  pub answers_are : (w : Wires) → replies w empty 0 (calls x.cycle x.ports x.flows) ≡ answers w s
  answers_are w =
      ap (λ (rs : List (Result Reply PlanFault)). reply w empty 0 (SetUp x.cycle x.ports) ∷ rs)
      (replies-at w (next w empty (SetUp x.cycle x.ports)) x.flows (records x.flows.now) 0)
      ∙ (λ i. replies w empty 0 (calls (parts.cycle i) (at (parts.ports i)) (at (parts.flows i))))

  -- what the plan holds after them
  pub after_is : (w : Wires) → after w empty (calls x.cycle x.ports x.flows) ≡ after w empty (calls (cycle s) (at (port_sheet s)) (at (flow_sheet s)))
  after_is w =
      after-at w (next w empty (SetUp x.cycle x.ports)) x.flows (records x.flows.now) 0
      ∙ (λ i. after w empty (calls (parts.cycle i) (at (parts.ports i)) (at (parts.flows i))))
