use Rattle.std.proofs.Common.{◌≡◌, ℕ, List, length, Ok, Err, ap, ◌∙◌, rules}
use Rattle.std.specs.Array.{IsWholeChunk}
use Rattle.std.proofs.lemmas.Result.{err_from_is_err_and}
use Rattle.sheet.specs.Fields.{field}
use Rattle.sheet.specs.Flows.{flow_of, idle_start}
use Rattle.sheet.specs.FlowsLemmas.{flow_reading}
use Rattle.sheet.proofs.flow.FlowRecordRecordKind.read.Goals as goal
use Rattle.sheet.proofs.flow.FlowRecordRecordKind.read.Goals.{in-Some, in-None}

-- a field of the array is the field of the slice
field-chunk : {s o : List ℕ} → IsWholeChunk s o 21 → (b n : ℕ) → field (length o) b n o ≡ field 21 b n s
field-chunk w b n = λ i. field ((ap length w.same ∙ w.long) i) b n (w.same i)

pub returns-in_err-judge : goal.returns-in_err-judge
returns-in_err-judge c =
    let s : List ℕ = c.args.octets.now in
    let fault = err_from_is_err_and c.from_residual.result c.from_residual.ensures.1 in
    let whole : IsWholeChunk s c.in-Ok.octets.now 21 = search rules in
    let idle : c.match-record.idle ≡ idle_start c.from_octets-record.result.start (field 21 91 30 s)
    = elim c.match-record.branch [
      | in-Some w ↦ rw w.in-Some.is w.idle-is
      | in-None w ↦ rw w.in-None.is (w.idle-is ∙ w.field-idle.ensures.value ∙ field-chunk whole 91 30)
    ] in
    let is = flow_reading c.args.index s whole.long (c.from_octets-record.ensures.value ∙ ap flow_of whole.same) idle (c.field-spare.ensures.value ∙ field-chunk whole 165 3)
    (Err c.in_err-judge.field-0.0) c.zeros.ensures.value c.limits.ensures.value c.in_err-judge.ensures.value in
    record { value = fault.1 ∙ ap Err fault.2 ∙ is }

pub returns : goal.returns
returns c =
    let s : List ℕ = c.args.octets.now in
    let whole : IsWholeChunk s c.in-Ok.octets.now 21 = search rules in
    let idle : c.match-record.idle ≡ idle_start c.from_octets-record.result.start (field 21 91 30 s)
    = elim c.match-record.branch [
      | in-Some w ↦ rw w.in-Some.is w.idle-is
      | in-None w ↦ rw w.in-None.is (w.idle-is ∙ w.field-idle.ensures.value ∙ field-chunk whole 91 30)
    ] in
    record {
      value =
          flow_reading c.args.index s whole.long (c.from_octets-record.ensures.value ∙ ap flow_of whole.same) idle (c.field-spare.ensures.value ∙ field-chunk whole 165 3)
          (Ok tt) c.zeros.ensures.value c.limits.ensures.value c.in_ok-judge.ensures.value;
    }
