-- A word that is no number: the words ask for nothing. Otherwise the codes grow word by word.
use Rattle.std.proofs.Common.{◌<◌, [], length, get_or, vec_items, arith, rules}
use Rattle.std.proofs.lemmas.List.{length_push, length-map, get_or-map}
use Rattle.wires.proofs.Asked.{sofar_push, no_ethernet}
use Rattle.wires.specs.Orders.{Number, texts}
use Rattle.wires.proofs.read.read_ethernet.Goals as goal

pub returns-in_default : goal.returns-in_default
returns-in_default c =
    let ws = c.args.rest.now in
    let k = c.loop-word.word-index in
    let here : k < length ws = omega arith in
    let long = length-map ws (λ word. word.now) in
    record {
      understood = no_ethernet (texts ws) (λ cs many each.
          let number = each k (omega arith) in
          let word = get_or-map (λ word. word.now) ws k _ [] here in
          c.in_default.ensures.cases number.written (rw word at number.number));
    }

pub loop-word-preserved : goal.loop-word-preserved
loop-word-preserved c =
    let ws = c.args.rest.now in
    let k = c.loop-word.word-index in
    let cs = vec_items c.loop-word.codes in
    let new : Number 255 (get_or (texts ws) k []) c.in-Some.code = search (rules, get_or-map) in
    let items = c.in_ok-push.ensures.items in
    (simp (items, length_push) (omega (arith, c.loop-word.invariant.0)), simp items (sofar_push (texts ws) cs c.in-Some.code k c.loop-word.invariant.1 c.loop-word.invariant.0 new))

pub returns : goal.returns
returns c = search (rules, length-map)
