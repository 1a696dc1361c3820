-- Call by call the answers, the plan and the buffer are the defined ones, and what a plan holds is assured.
use Rattle.std.proofs.Common.{◌≡◌, ℕ, List, map, length, pos, Some, None, Err, Result, sym, refl, ap, ◌∙◌, subst, arith}
use Rattle.std.specs.Iterator.Adapters.{enumerate_source, enumerate_count}
use Rattle.std.proofs.lemmas.Result.{err_from_is_err_and}
use Rattle.std.proofs.lemmas.List.{length-map}
use Rattle.line.specs.Meaning.{Rules}
use Rattle.line.proofs.Rules.{rules-from}
use Rattle.plan.specs.declared.call.Call.{Call}
use Rattle.plan.specs.Alike.{Alike}
use Rattle.plan.specs.Calls.{Wires}
use Rattle.plan.specs.Models.{model, setup, wires}
use Rattle.plan.specs.Steps.{next, reply, written}
use Rattle.plan.proofs.Called.{same_of}
use Rattle.interface.specs.declared.calls.Calls.{Calls}
use Rattle.interface.specs.declared.unperformed.Unperformed.{Unperformed}
use Rattle.interface.specs.Performed.{came_to, done, returned_number}
use Rattle.interface.specs.Spoken.{Front, ReadsNext, Spoken, call, calls_of, first_call, spoken}
use Rattle.interface.proofs.Outcomes.{listed, not-counted, is-counted, performs, no-calls, no_room, all_done, not-refused, gone_through}
use Rattle.interface.proofs.Performing.{Going, going-at-first, room-left, going_on}
use Rattle.interface.proofs.Reading.{first_call-next}
use Rattle.interface.proofs.perform.performed.Given as given
use Rattle.interface.proofs.perform.performed.Goals as goal

-- the line keeps the rules
rules : (g : given.Over) (x : g.row.L.Denot) → Rules g.L.Line.LARGEST (g.L.Line.meaning x)
rules g x =
    let met = g.met.L.Line in
    rules-from g.L.Line.LARGEST (g.L.Line.meaning x) met.least met.greatest (met.some x) (met.few x) (met.absent x) (met.short x) (met.long x) (met.timed x) (met.bounded x) (met.longer x)

pub returns-in_err-count : goal.returns-in_err-count
returns-in_err-count g c =
    let w = wires g.L.Line.LARGEST (g.L.Line.meaning c.args.line) in
    let calls = c.args.calls.now in
    let none = not-counted (calls_of calls) _ c.in_err-count.ensures.value in
    let told = err_from_is_err_and c.from_residual.result c.from_residual.ensures.1 in
    let why = told.1 ∙ ap Err (told.2 ∙ none.1) in
    let is = ap (λ r. came_to (returned_number r) c.args.answers.now c.args.buffer.now) why ∙ no-calls w c.args.answers.now c.args.buffer.now (calls_of calls) none.0 in
    record { performs = performs w (rules g c.args.line) calls c.args.answers.now c.args.buffer.now _ is }

pub returns-then-answers-count : goal.returns-then-answers-count
returns-then-answers-count g c =
    let w = wires g.L.Line.LARGEST (g.L.Line.meaning c.args.line) in
    let calls = c.args.calls.now in
    let count = is-counted (calls_of calls) c.in_ok-count.count c.in_ok-count.ensures.value in
    let many = count.1 in
    let is = no_room w c.args.answers.now c.args.buffer.now (calls_of calls) (listed (calls_of calls)) count.0 (omega arith) in
    record { performs = performs w (rules g c.args.line) calls c.args.answers.now c.args.buffer.now _ is }

pub loop-index-init : goal.loop-index-init
loop-index-init g c =
    let x = c.new-plan.result.line in
    let calls = c.args.calls.now in
    let ss = listed (calls_of calls) in
    let a = c.args.answers.now in
    let b = c.args.buffer.now in
    let made = c.new-plan.ensures in
    let same = c.into_iter-index-iterator.ensures.into_iter_gives in
    let turn = ap enumerate_count same ∙ c.enumerate-index-items.ensures.count in
    let source = ap enumerate_source same ∙ c.enumerate-index-items.ensures.source in
    let count = is-counted (calls_of calls) c.in_ok-count.count c.in_ok-count.ensures.value in
    let w = wires g.L.Line.LARGEST (g.L.Line.meaning x) in
    let m = model c.new-plan.result.setup c.new-plan.result.rows in
    let going = going-at-first w ss a b calls m count.0 (record { setup = ap setup made.setup; held = same_of made.held }) in
    (refl, subst (λ (at : ℕ × Calls). Going w ss a b at.0 at.1.0.now m a b) (λ i. (sym turn i, sym source i)) going)

pub returns-in_err-call : goal.returns-in_err-call
returns-in_err-call g c =
    let rest = (enumerate_source c.loop-index.index-iterator).0.now in
    let read = subst (λ (r : Result Call Unperformed). ReadsNext rest (Some r) (enumerate_source c.next.new.self).0.now) c.in_err-call.was c.in-Some.ensures.steps.0 in
    absurd (not-refused rest _ c.loop-index.invariant.1.left read.1 read.2)

pub write_answer-requires : goal.write_answer-requires
write_answer-requires g c =
    let calls = c.args.calls.now in
    let rest = (enumerate_source c.loop-index.index-iterator).0.now in
    let behind = (enumerate_source c.next.new.self).0.now in
    let steps = c.in-Some.ensures.steps in
    let read = first_call-next rest c.in-Some.call c.in_ok-call.field-0 behind c.in_ok-call.was steps.0 in
    let turn = steps.1 in
    let many = (is-counted (calls_of calls) c.in_ok-count.count c.in_ok-count.ensures.value).1 in
    let room = room-left _ (listed (calls_of calls)) c.args.answers.now c.args.buffer.now (enumerate_count c.loop-index.index-iterator) rest _ c.loop-index.answers c.loop-index.buffer c.loop-index.invariant.1
    (spoken c.in_ok-call.field-0) behind read in
    let kept = c.loop-index.auto.answers in
    record { long = omega arith }

pub loop-index-preserved : goal.loop-index-preserved
loop-index-preserved g c =
    let x = c.new-plan.result.line in
    let w = wires g.L.Line.LARGEST (g.L.Line.meaning x) in
    let calls = c.args.calls.now in
    let rest = (enumerate_source c.loop-index.index-iterator).0.now in
    let behind = (enumerate_source c.next.new.self).0.now in
    let steps = c.in-Some.ensures.steps in
    let read = first_call-next rest c.in-Some.call c.in_ok-call.field-0 behind c.in_ok-call.was steps.0 in
    let d = c.in_ok-call.field-0 in
    let plan = c.loop-index.plan in
    let m = model plan.setup plan.rows in
    let m' = model c.call.new.self.setup c.call.new.self.rows in
    let inv = c.loop-index.invariant in
    let same = ap (λ (y : g.row.L.Denot). wires g.L.Line.LARGEST (g.L.Line.meaning y)) inv.0 in
    let does = c.call.ensures in
    let replied = does.value ∙ ap (λ (v : Wires). reply v m (length c.loop-index.buffer) d) same ∙ ap (λ (n : ℕ). reply w m n d) c.loop-index.auto.buffer in
    let wrote = does.buffer ∙ ap (λ (v : Wires). written v m c.loop-index.buffer d) same in
    let left = subst (λ (v : Wires). Alike m' (next v m d)) same does.after in (
      does.line ∙ inv.0,
      going_on w (listed (calls_of calls)) c.args.answers.now c.args.buffer.now (rules g x) (enumerate_count c.loop-index.index-iterator) c.in-Some.index (enumerate_count c.next.new.self) steps.1 steps.2
          rest m c.loop-index.answers c.loop-index.buffer inv.1 d behind read m' c.call.result c.write_answer.new.answers c.call.new.buffer left replied wrote c.write_answer.ensures.after,
    )

pub returns : goal.returns
returns g c =
    let x = c.args.line in
    let w = wires g.L.Line.LARGEST (g.L.Line.meaning x) in
    let calls = c.args.calls.now in
    let ss = listed (calls_of calls) in
    let a = c.args.answers.now in
    let b = c.args.buffer.now in
    let v = ap (λ (y : g.row.L.Denot). wires g.L.Line.LARGEST (g.L.Line.meaning y)) c.new-plan.ensures.line in
    let count = is-counted (calls_of calls) c.in_ok-count.count c.in_ok-count.ensures.value in
    let many = count.1 in
    let is = all_done w a b (calls_of calls) ss count.0 (omega arith) in
    let none = subst (λ (s : List ℕ). ◌≡◌ {A = Front Spoken} None (first_call s)) (sym c.in-None.ensures.steps.0.0) refl in
    let through = gone_through _ ss a b (enumerate_count c.loop-index.index-iterator) (enumerate_source c.loop-index.index-iterator).0.now _ c.loop-index.answers c.loop-index.buffer c.loop-index.invariant.1 none in
    let number = ap pos (many ∙ sym (length-map ss call)) in
    record { performs = performs w (rules g x) calls a b _ (ap (λ n. came_to n c.loop-index.answers c.loop-index.buffer) number ∙ through ∙ ap (λ (u : Wires). done u (map call ss) a b) v ∙ is) }
