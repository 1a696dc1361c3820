-- The text that a record's fault prints.
-- Assumes nothing.
use Rattle.std.specs.Prelude.{ℕ, List, ◌++◌, codes, decimal}
use Rattle.fault.specs.Refusals.{refused}
use Rattle.fault.specs.Sentences.{sentence}
use Rattle.fault.specs.declared.kinds.PlanFault.TheVariants.{Record}
use Rattle.fault.specs.declared.kinds.RecordFault.{RecordFault}

-- the fault's number, its record and bit, then its sentence
abbrev pub fault_text : RecordFault → List ℕ
fault_text f =
    let r = refused (Record f) in
    codes "fault " ++ (decimal r.number ++ (codes " at record " ++ (decimal r.place.index ++ (codes ", bit " ++ (decimal r.place.bit ++ (codes ": " ++ sentence (Record f)))))))
