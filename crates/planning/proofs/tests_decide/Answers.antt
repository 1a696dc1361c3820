use Rattle.std.proofs.Common.{Some, None}
use Rattle.planning.proofs.GateCounts.{gates-length}
use Rattle.planning.proofs.GateLists.{gates_list, gates-alone}
use Rattle.planning.proofs.GateStates.{covered-only, covered-all, guarded-only, guarded-all, state-is, state-alone}
use Rattle.planning.proofs.Overlaps.{decides-overlaps, decides-fits, earliest_starts, starts-earliest}
use Rattle.planning.proofs.tests_decide.Goals as goal

pub returns : goal.returns
returns c = record {
  overlap = decides-overlaps;
  fit = decides-fits;
  earliest = λ flows repeat f repeats. record {
    found = λ s. earliest_starts flows repeat f repeats (Some s);
    only = λ s. starts-earliest flows repeat f repeats (Some s);
    none = earliest_starts flows repeat f repeats None;
    never = starts-earliest flows repeat f repeats None;
  };
  states = λ net flows q y formed below. record {
    covers = covered-only net flows q y formed below;
    covered = covered-all net flows q y formed below;
    guards = guarded-only net flows q y formed below;
    guarded = guarded-all net flows q y formed below;
    is = state-is net flows q y formed below;
    alone = state-alone net flows q y formed below;
  };
  lists = λ net flows q formed. (gates_list net flows q formed, gates-alone net flows q formed);
  few = gates-length;
}
