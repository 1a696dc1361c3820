-- What is printed of an input, by its line and by the answers to its calls.
-- Assumes nothing.
use Rattle.std.proofs.Common.{◌≡◌, ◌<◌, ◌≤◌, ℕ, Bool, true, false, cond, ltb, List, [], ◌∷◌, length, get_or, drop, Ok, Err, IfOk, codes, Result, refl, sym, ap, ◌∙◌, arith}
use Rattle.std.specs.Result.{IsErr}
use Rattle.std.proofs.lemmas.Result.{IfOk-weaker, IfOk-from_err}
use Rattle.std.specs.Fmt.{digits}
use Rattle.std.proofs.lemmas.Bool.{le-ltb, cond-false}
use Rattle.fault.specs.declared.kinds.PlanFault.{PlanFault}
use Rattle.fault.specs.declared.kinds.PlanFault.TheVariants.{Record, Filling}
use Rattle.fault.specs.declared.kinds.RecordFault.TheVariants.{Sheet}
use Rattle.fault.specs.declared.kinds.SheetFault.TheVariants.{Unfinished}
use Rattle.line.specs.declared.ethernet.Ethernet.{Ethernet}
use Rattle.line.specs.Fillings.{Codes, Coded}
use Rattle.line.proofs.Codes.{coded-is}
use Rattle.plan.specs.declared.call.Reply.{Reply}
use Rattle.plan.specs.Calls.{Wires}
use Rattle.plan.specs.Models.{wires}
use Rattle.report.specs.Inputs.{head, rate_codes}
use Rattle.report.specs.Lines.{wired, coded, line}
use Rattle.report.specs.Listings.{refused_line, answers, set_up, printed}
use Rattle.report.specs.declared.run.Stop.{Stop}
use Rattle.report.specs.declared.run.Stop.TheVariants.{NoMemory, Refused}
use Rattle.report.specs.Runs.{input_line, Stopped}
use Rattle.report.proofs.Lines.{are-codes_true, are-codes_false}

module _ (s : List ℕ) where
  module _ (long : head s ≤ length s) where
    -- one whose rate codes are refused has none
    pub input-line_refused : (Codes (rate_codes s) → ⊥) → input_line s ≡ Err Filling
    input-line_refused none =
        cond-false (ltb (length s) (head s)) _ _ (le-ltb (length s) (head s) long)
        ∙ ap (λ (b : Bool). cond b (Ok (coded (rate_codes s))) (Err Filling)) (are-codes_false (rate_codes s) none)

    -- its line is the one that was filled
    pub input-line_filled : (filled : Ethernet) → Codes (rate_codes s) → Coded (rate_codes s) filled → input_line s ≡ Ok (wired filled)
    input-line_filled filled some is =
        cond-false (ltb (length s) (head s)) _ _ (le-ltb (length s) (head s) long)
        ∙ ap (λ (b : Bool). cond b (Ok (coded (rate_codes s))) (Err Filling)) (are-codes_true (rate_codes s) some)
        ∙ sym (ap (λ (w : Wires). Ok w) (ap (wires 1522) (coded-is (rate_codes s) filled is)))

  -- what is printed, by the line
  printed-is : (text : Wires → List (Result Reply PlanFault) → List ℕ) → printed text s ≡ elim (input_line s) [ Err e ↦ refused_line e | Ok w ↦ set_up (text w) (answers w s) ]
  unfolding digits
  printed-is text = go (ltb (length s) (head s))
    where
      go : (b : Bool) →
          cond b (codes "X 1\n") (elim (line (rate_codes s)) [ Err e ↦ refused_line e | Ok w ↦ set_up (text w) (answers w s) ])
          ≡ elim (cond b (Err (Record (Sheet (Unfinished 0)))) (line (rate_codes s))) [ Err e ↦ refused_line e | Ok w ↦ set_up (text w) (answers w s) ]
      go true = refl
      go false = refl

  -- where there is no line, its refusal is printed
  pub stopped_without-line : (e : PlanFault) → input_line s ≡ Err e → Stopped s (Refused e)
  stopped_without-line e none text =
      sym (printed-is text ∙ ap (λ (l : Result Wires PlanFault). elim l [ Err e ↦ refused_line e | Ok w ↦ set_up (text w) (answers w s) ]) none)

  -- where there is one and the set-up is done, a text of the other answers is printed
  pub printed-after : (w : Wires) → input_line s ≡ Ok w → (r : Reply) (rest : List (Result Reply PlanFault)) → answers w s ≡ Ok r ∷ rest →
      (text : Wires → List (Result Reply PlanFault) → List ℕ) → text w rest ≡ printed text s
  printed-after w is r rest told text =
      sym
      (printed-is text
      ∙ ap (λ (l : Result Wires PlanFault). elim l [ Err e ↦ refused_line e | Ok v ↦ set_up (text v) (answers v s) ]) is
      ∙ ap (set_up (text w)) told)

-- the first of some answers and the others
pub first-and-rest : (told : List (Result Reply PlanFault)) (first : Result Reply PlanFault) (rest : List (Result Reply PlanFault)) → 0 < length told → first ≡ get_or told 0 first → rest ≡ drop 1 told → told ≡ first ∷ rest
first-and-rest [] first rest some one others = absurd (omega arith)
first-and-rest (a ∷ told) first rest some one others = sym (λ i. one i ∷ others i)

-- a line is printed for a refusal, and none without memory
pub stop_line : {T E : Type 0} (bytes : T → List ℕ) (s : List ℕ) (stop : Stop) (r : Result T E) → Stopped s stop → (stop ≡ NoMemory → IsErr r) →
    ((e : PlanFault) → stop ≡ Refused e → IfOk r (λ t. bytes t ≡ refused_line e)) →
    (text : Wires → List (Result Reply PlanFault) → List ℕ) → IfOk r (λ t. bytes t ≡ printed text s)
stop_line bytes s NoMemory r stopped none told text = IfOk-from_err r _ (none refl)
stop_line bytes s (Refused e) r stopped none told text = IfOk-weaker r _ _ (λ t is. is ∙ stopped text) (told e refl)
