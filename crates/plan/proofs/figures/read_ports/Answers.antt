-- A fault ends the reading, and else the figures are those of one record more.
use Rattle.std.proofs.Common.{rules, set, ◌≡◌, ℕ, max, List, Ok, Err, Result, sym, ap, ◌∙◌, subst, inl, inr, arith}
use Rattle.std.proofs.lemmas.Result.{err_from_is_err_and}
use Rattle.fault.specs.declared.kinds.RecordFault.{RecordFault}
use Rattle.sheet.specs.declared.port.PortRecord.{PortRecord}
use Rattle.sheet.specs.Ports.{read_port}
use Rattle.sheet.specs.Sheets.{read_at}
use Rattle.plan.specs.Figures.{Reads}
use Rattle.plan.proofs.Sheets.{front, front-all, reads_more, reads_fault}
use Rattle.plan.proofs.Stored.{figured-none}
use Rattle.plan.proofs.figures.read_ports.Goals as goal
use Rattle.plan.proofs.figures.read_ports.Goals.{then-k-lt32, else-k-lt32}

pub loop-k-init : goal.loop-k-init
loop-k-init c = let none = c.default-ports.ensures in figured-none c.default-ports.result none.0 none.1.0 none.1.1

pub returns-in_err-record : goal.returns-in_err-record
returns-in_err-record c =
    let new = c.new.ensures in
    let here = sym (c.in_err-record.ensures.value ∙ (λ i. read_at 8 read_port (new.index i) (new.sheet i))) in
    let fault = err_from_is_err_and c.from_residual-in_err-record.result c.from_residual-in_err-record.ensures.1 in
    let all = reads_fault c.loop-k.k c.in_ok-count.count c.args.sheet.now _ _ c.loop-k.invariant c.loop-k-test.true c.in_ok-count.ensures.value here in
    record {
      reads = subst (λ (r : Result (List PortRecord) RecordFault). Reads r c.from_residual-in_err-record.result) (sym all) (fault.1 ∙ ap Err fault.2);
    }

pub loop-k-preserved : goal.loop-k-preserved
loop-k-preserved c =
    let new = c.new.ensures in
    let here = sym (c.in_ok-record.ensures.value ∙ (λ i. read_at 8 read_port (new.index i) (new.sheet i))) in
    let greatest : c.max-longest.result ≡ max c.loop-k.longest c.in_ok-record.record.best_effort = search rules in
    rw greatest
    (reads_more c.loop-k.k c.args.sheet.now c.in_ok-record.record c.loop-k.ports c.if-k-lt32.ports c.loop-k.longest c.loop-k.invariant here
    (elim c.if-k-lt32.branch [
      | then-k-lt32 w ↦ inl (w.if-k-lt32.true, w.ports-is ∙ ap (set c.loop-k.ports c.loop-k.k) w.from.ensures)
      | else-k-lt32 w ↦ inr (w.if-k-lt32.false, w.ports-is)
    ]))

pub returns : goal.returns
returns c =
    let sheet = c.args.sheet.now in
    let all : c.loop-k.k ≡ c.in_ok-count.count = omega arith in
    record {
      reads = subst (λ (r : Result (List PortRecord) RecordFault). Reads r (Ok (record { count = c.in_ok-count.count; ports = c.loop-k.ports; longest = c.loop-k.longest })))
          (front-all sheet c.in_ok-count.count c.in_ok-count.ensures.value)
          (subst (λ (n : ℕ). Reads (front sheet n) (Ok (record { count = n; ports = c.loop-k.ports; longest = c.loop-k.longest }))) all c.loop-k.invariant);
    }
