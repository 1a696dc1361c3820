-- The answer to a set-up, from the figures of its sheet.
-- Assumes nothing.
use Rattle.std.proofs.Common.{◌≡◌, ℕ, ◌<◌, ◌≤◌, cond, not, ◌||◌, eqb, ltb, true, List, map, length, take, None, Ok, Err, Option, Result, sym, ap, ◌∙◌, arith}
use Rattle.std.proofs.lemmas.List.{take_all}
use Rattle.std.proofs.lemmas.Bool.{lt-ltb, le-ltb, eq-eqb, ne_eqb, or_from, not_from_true, not_from_false, cond-true, cond-false}
use Rattle.fault.specs.declared.kinds.PlanFault.{PlanFault}
use Rattle.fault.specs.declared.kinds.PlanFault.TheVariants.{Record, Cycle, PortCount, BestEffort}
use Rattle.fault.specs.declared.kinds.RecordFault.{RecordFault}
use Rattle.sheet.specs.declared.port.PortRecord.{PortRecord}
use Rattle.sheet.specs.Ports.{read_port}
use Rattle.sheet.specs.Sheets.{read_sheet}
use Rattle.planning.specs.Lists.{any}
use Rattle.planning.specs.Setups.{Setup, Port}
use Rattle.plan.specs.declared.figures.Figures.{Figures}
use Rattle.plan.specs.Calls.{Wires, Model, port, set_up, set_up_answer}
use Rattle.plan.specs.Figures.{Reads}
use Rattle.plan.specs.Ports as stored
use Rattle.plan.proofs.Sheets.{Done}

-- the answer to port records by their best-effort lengths, and before that by their number
abbrev by-best : Wires → ℕ → List PortRecord → Result Setup PlanFault
by-best w C xs = cond (any (λ x. ltb w.most x.best_effort) xs) (Err BestEffort) (Ok (record { cycle = C; ports = map port xs }))

abbrev by_count : Wires → ℕ → List PortRecord → Result Setup PlanFault
by_count w C xs = cond (not (eqb (length xs) w.meaning.ports)) (Err PortCount) (by-best w C xs)

-- from the fault of the sheet
pub set_up_fault : (w : Wires) (m : Model) (C : ℕ) (sheet : List ℕ) (e : PlanFault) → Reads (read_sheet 8 read_port sheet) (Err e) → set_up_answer w m C sheet ≡ Err e
set_up_fault w m C sheet e reads = go (read_sheet 8 read_port sheet) reads
  where
    go : (r : Result (List PortRecord) RecordFault) → Reads r (Err e) → ◌≡◌ {A = Result Setup PlanFault} (elim r [ Err f ↦ Err (Record f) | Ok xs ↦ set_up w m.setup C xs ]) (Err e)
    go (Ok xs) none = absurd none
    go (Err f) is = let same : Record f ≡ e = cc in ap Err same

-- of a plan that is not set up, from the records of the sheet
module _ (w : Wires) (m : Model) (C : ℕ) (sheet : List ℕ) {f : Figures} (read : Done (read_sheet 8 read_port sheet) f) (unset : m.setup ≡ None) where
  answer_unset : set_up_answer w m C sheet ≡ set_up w None C read.xs
  answer_unset =
      ap (λ (r : Result (List PortRecord) RecordFault). elim r [ Err e ↦ Err (Record e) | Ok xs ↦ set_up w m.setup C xs ]) read.is
      ∙ ap (λ (o : Option Setup). set_up w o C read.xs) unset

  pub set_up-cycle : (ltb C 1000 || ltb 1000000000 C) ≡ true → set_up_answer w m C sheet ≡ Err Cycle
  set_up-cycle outside = answer_unset ∙ cond-true _ _ _ outside

-- with a cycle within its limits
module _ (w : Wires) (m : Model) (C : ℕ) (sheet : List ℕ) {f : Figures} (read : Done (read_sheet 8 read_port sheet) f) (unset : m.setup ≡ None) (low : 1000 ≤ C) (high : C ≤ 1000000000) where
  answer-cycle : set_up_answer w m C sheet ≡ by_count w C read.xs
  answer-cycle = answer_unset w m C sheet read unset ∙ cond-false (ltb C 1000 || ltb 1000000000 C) _ _ (or_from _ _ (le-ltb C 1000 low) (le-ltb 1000000000 C high))

  pub set_up-count : (f.count ≡ w.meaning.ports → ⊥) → set_up_answer w m C sheet ≡ Err PortCount
  set_up-count differ =
      answer-cycle ∙ cond-true _ _ _ (not_from_false (eqb (length read.xs) w.meaning.ports) (ne_eqb (length read.xs) w.meaning.ports (λ same. differ (read.figured.count ∙ same))))

  answer-count : f.count ≡ w.meaning.ports → set_up_answer w m C sheet ≡ by-best w C read.xs
  answer-count same =
      answer-cycle ∙ cond-false _ _ _ (not_from_true (eqb (length read.xs) w.meaning.ports) (eq-eqb (length read.xs) w.meaning.ports (sym read.figured.count ∙ same)))

  pub set_up-best : f.count ≡ w.meaning.ports → w.most < f.longest → set_up_answer w m C sheet ≡ Err BestEffort
  set_up-best same above = answer-count same ∙ cond-true _ _ _ (sym (read.figured.longest w.most) ∙ lt-ltb w.most f.longest above)

  pub set_up-done : f.count ≡ w.meaning.ports → w.meaning.ports ≤ 32 → f.longest ≤ w.most →
      set_up_answer w m C sheet ≡ Ok (record { cycle = C; ports = map stored.port (take f.count f.ports) })
  set_up-done same few within =
      let count = read.figured.count in
      let ports = ap (λ (n : ℕ). map stored.port (take n f.ports)) count ∙ read.figured.ports ∙ ap (map port) (take_all 32 read.xs (omega arith)) in
      answer-count same ∙ cond-false _ _ _ (sym (read.figured.longest w.most) ∙ le-ltb w.most f.longest within) ∙ ap (λ (ps : List Port). Ok (record { cycle = C; ports = ps })) (sym ports)
