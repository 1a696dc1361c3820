-- The records are those of the case.
use Rattle.std.proofs.Common.{◌≡◌, ℕ, List, [], ◌∷◌, length, Some, ap, ◌∙◌}
use Rattle.sheet.specs.declared.flow.FlowRecord.{FlowRecord}
use Rattle.sheet.specs.Flows.{judge_flow, written_flow}
use Rattle.sheet.specs.Sheets.{judge_from, written_sheet}
use Rattle.sheet.specs.Writings.{answered_sheet, put}
use Rattle.worked.specs.Case.{flows}
use Rattle.worked.proofs.script.flow_sheet.Goals as goal

-- a record with a start that is chosen
at : ℕ → FlowRecord → FlowRecord
at s x = record x { start = Some s }

pub returns : goal.returns
unfolding at
returns c =
    let records : c.new-seven.result ∷ c.new-nine.result ∷ c.new-eleven.result ∷ at 10_891 c.new.result ∷ [] ≡ flows
    = λ i. c.new-seven.ensures.value i ∷ c.new-nine.ensures.value i ∷ c.new-eleven.ensures.value i ∷ at 10_891 (c.new.ensures.value i) ∷ [] in
    record {
      value = c.write_sheet.ensures.value ∙ ap (λ (xs : List FlowRecord). answered_sheet 84 (length c.args.buffer.now) (judge_from judge_flow 0 xs)) records;
      after =
          c.write_sheet.ensures.after
          ∙ ap (λ (xs : List FlowRecord). put c.write_sheet.result 84 (written_sheet written_flow xs) c.args.buffer.now) records;
    }
