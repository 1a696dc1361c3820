use Rattle.planning.proofs.Keeps.{offers-keep, offers_stay_few}
use Rattle.planning.proofs.offers_keep.Goals as goal

pub returns : goal.returns
returns c = record { keep = offers-keep; few = offers_stay_few }
