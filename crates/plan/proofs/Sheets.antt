-- The figures of a sheet of port records, as they are read record by record.
-- Assumes nothing.
use Rattle.std.proofs.Common.{◌≡◌, ℕ, ◌+◌, ◌<◌, ◌≤◌, max, ◌⊎◌, List, [], ◌∷◌, ◌++◌, set, Ok, Err, Result, sym, refl, ap, ◌∙◌, subst, inl, inr, arith}
use Rattle.fault.specs.declared.kinds.RecordFault.{RecordFault}
use Rattle.sheet.specs.declared.port.PortRecord.{PortRecord}
use Rattle.sheet.specs.Ports.{read_port}
use Rattle.sheet.specs.Sheets.{read_at, read_from, record_count, read_count, read_sheet}
use Rattle.plan.specs.declared.figures.Figures.{Figures}
use Rattle.plan.specs.declared.setup.Port.{Port}
use Rattle.plan.specs.Figures.{Figured, Reads}
use Rattle.plan.specs.Ports.{stored}
use Rattle.plan.proofs.InOrder.{read_from_more, read_from_fault, delays_read}
use Rattle.plan.proofs.Stored.{figured-stored, figured_past}

-- the first n records of a sheet
abbrev pub front : List ℕ → ℕ → Result (List PortRecord) RecordFault
front sheet n = read_from (λ k. read_at 8 read_port k sheet) n 0

-- figures that were read are those of some records
pub record Done (r : Result (List PortRecord) RecordFault) (f : Figures) : Type 0 where
  pub xs : List PortRecord
  pub is : r ≡ Ok xs
  pub figured : Figured xs f

pub done : (r : Result (List PortRecord) RecordFault) (f : Figures) → Reads r (Ok f) → Done r f
done (Ok xs) f reads = record { xs = xs; is = refl; figured = reads }
done (Err e) f reads = let never : ◌≡◌ {A = ℕ} 0 1 = cc in absurd (omega arith)

-- all records of a sheet of n
pub front-all : (sheet : List ℕ) (n : ℕ) → Ok n ≡ record_count 8 sheet → front sheet n ≡ read_sheet 8 read_port sheet
front-all sheet n is = ap (read_count 8 read_port sheet) is

-- one record more: it is stored where there is room
pub reads_more : (k : ℕ) (sheet : List ℕ) (x : PortRecord) (ports more : List Port) (longest : ℕ) →
    Reads (front sheet k) (Ok (record { count = k; ports = ports; longest = longest })) → read_at 8 read_port k sheet ≡ Ok x →
    ((k < 32) × (more ≡ set ports k (stored x))) ⊎ ((32 ≤ k) × (more ≡ ports)) →
    Reads (front sheet (k + 1)) (Ok (record { count = k + 1; ports = more; longest = max longest x.best_effort }))
reads_more k sheet x ports more longest reads here stores =
    let so_far = done (front sheet k) (record { count = k; ports = ports; longest = longest }) reads in
    let xs = so_far.xs in
    let figured = so_far.figured in
    let figures : List Port → Figures = λ ps. record { count = k + 1; ports = ps; longest = max longest x.best_effort } in
    subst (λ (r : Result (List PortRecord) RecordFault). Reads r (Ok (figures more))) (sym (read_from_more (λ j. read_at 8 read_port j sheet) k xs x so_far.is here))
    (elim stores [
      | inl p ↦ subst (λ (ps : List Port). Figured (xs ++ x ∷ []) (figures ps)) (sym p.1) (figured-stored k xs x ports longest figured p.0 (delays_read k sheet x here))
      | inr p ↦ subst (λ (ps : List Port). Figured (xs ++ x ∷ []) (figures ps)) (sym p.1) (figured_past k xs x ports longest figured p.0)
    ])

-- the first fault
pub reads_fault : (k n : ℕ) (sheet : List ℕ) (f : Figures) (e : RecordFault) → Reads (front sheet k) (Ok f) → k < n → Ok n ≡ record_count 8 sheet →
    read_at 8 read_port k sheet ≡ Err e → read_sheet 8 read_port sheet ≡ Err e
reads_fault k n sheet f e reads below is here =
    let so_far = done (front sheet k) f reads in
    sym (front-all sheet n is) ∙ read_from_fault (λ j. read_at 8 read_port j sheet) k n so_far.xs e below so_far.is here
