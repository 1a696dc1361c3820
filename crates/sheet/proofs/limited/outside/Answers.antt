use Rattle.std.proofs.Common.{rules, tests}
use Rattle.std.proofs.lemmas.Iterator.{YieldsList-from_slice}
use Rattle.std.proofs.lemmas.Iterator.Search.{find_from_yields_List}
use Rattle.sheet.specs.Limits.{is_outside}
use Rattle.sheet.proofs.limited.outside.Goals as goal

pub returns : goal.returns
returns c =
    let found = find_from_yields_List is_outside _ _ c.find.result c.find.ensures.ran (YieldsList-from_slice c.args.fields.now cc) (λ x b q k. search (rules, tests)) in
    record { value = search rules }
