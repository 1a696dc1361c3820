-- What `split_whitespace` gives is the words of the line.
use Rattle.std.proofs.Common.{rules}
use Rattle.wires.proofs.Lined.{words_from_collect}
use Rattle.wires.proofs.words.words_of.Goals as goal

pub returns : goal.returns
returns c = search (rules, words_from_collect)
