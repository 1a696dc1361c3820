-- Each refusal is that of the answer, and what is stored where there is none is the answer's set-up.
use Rattle.std.proofs.Common.{rules, ◌≡◌, ◌≤◌, true, ◌||◌, ltb, None, Err, refl, ap, ◌∙◌, arith}
use Rattle.std.proofs.lemmas.Result.{err_from_is_err_and}
use Rattle.sheet.specs.Ports.{read_port}
use Rattle.sheet.specs.Sheets.{read_sheet}
use Rattle.plan.specs.Models.{model, setup, wires}
use Rattle.plan.proofs.Accepts.{set_up_fault, set_up-cycle, set_up-count, set_up-best, set_up-done}
use Rattle.plan.proofs.Sheets.{Done, done}
use Rattle.plan.proofs.plan.Plan.set_up.Given as given
use Rattle.plan.proofs.plan.Plan.set_up.Goals as goal
use Rattle.plan.proofs.plan.Plan.set_up.Goals.{In_ok-figures}

-- the records that were read
records : (g : given.Over) (c : In_ok-figures g) → Done (read_sheet 8 read_port c.args.ports.now) c.in_ok-figures.figures
records g c = done (read_sheet 8 read_port c.args.ports.now) c.in_ok-figures.figures c.in_ok-figures.ensures.reads

pub returns-in_err-figures : goal.returns-in_err-figures
returns-in_err-figures g c =
    let plan = c.args.self.now in
    let fault = err_from_is_err_and c.from_residual.result c.from_residual.ensures.1 in
    let answered = set_up_fault (wires g.L.Line.LARGEST (g.L.Line.meaning plan.line)) (model plan.setup plan.rows) c.args.cycle c.args.ports.now c.in_err-figures.field-0.0 c.in_err-figures.ensures.reads in
    rw answered (record { value = fault.1 ∙ ap Err fault.2; line = refl; rows = refl; after = refl })

pub returns-then-not-contains : goal.returns-then-not-contains
returns-then-not-contains g c =
    let plan = c.args.self.now in
    let C = c.args.cycle in
    let read = records g (goal.at.returns-then-not-contains g c).In_ok-figures in
    let unset : setup plan.setup ≡ None = search rules in
    let outside : (ltb C 1000 || ltb 1000000000 C) ≡ true = search rules in
    let answered = set_up-cycle (wires g.L.Line.LARGEST (g.L.Line.meaning plan.line)) (model plan.setup plan.rows) C c.args.ports.now read unset outside in
    rw answered (record { value = refl; line = refl; rows = refl; after = refl })

pub returns-then-figures-from : goal.returns-then-figures-from
returns-then-figures-from g c =
    let plan = c.args.self.now in
    let C = c.args.cycle in
    let read = records g (goal.at.returns-then-figures-from g c).In_ok-figures in
    let unset : setup plan.setup ≡ None = search rules in
    let low : 1000 ≤ C = search rules in
    let high : C ≤ 1000000000 = search rules in
    let answered = set_up-count (wires g.L.Line.LARGEST (g.L.Line.meaning plan.line)) (model plan.setup plan.rows) C c.args.ports.now read unset low high (λ same. absurd (omega arith)) in
    rw answered (record { value = refl; line = refl; rows = refl; after = refl })

pub returns-then-figures-LARGEST : goal.returns-then-figures-LARGEST
returns-then-figures-LARGEST g c =
    let plan = c.args.self.now in
    let C = c.args.cycle in
    let read = records g (goal.at.returns-then-figures-LARGEST g c).In_ok-figures in
    let unset : setup plan.setup ≡ None = search rules in
    let low : 1000 ≤ C = search rules in
    let high : C ≤ 1000000000 = search rules in
    let answered = set_up-best (wires g.L.Line.LARGEST (g.L.Line.meaning plan.line)) (model plan.setup plan.rows) C c.args.ports.now read unset low high (omega arith) (omega arith) in
    rw answered (record { value = refl; line = refl; rows = refl; after = refl })

pub returns : goal.returns
returns g c =
    let plan = c.args.self.now in
    let C = c.args.cycle in
    let read = records g (goal.at.returns g c).In_ok-figures in
    let unset : setup plan.setup ≡ None = search rules in
    let low : 1000 ≤ C = search rules in
    let high : C ≤ 1000000000 = search rules in
    let answered = set_up-done (wires g.L.Line.LARGEST (g.L.Line.meaning plan.line)) (model plan.setup plan.rows) C c.args.ports.now read unset low high (omega arith) (g.met.L.Line.few plan.line) (omega arith) in
    rw answered (record { value = refl; line = refl; rows = refl; after = refl })
