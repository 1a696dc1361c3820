-- Frames wait exactly where flows overlap: from no wait, from the wait at an overlap, and from a run of any flows.
use mathlib.Core.Path.{◌≡◌, sym, subst}
use mathlib.Core.List.{List}
use mathlib.Core.Logic.{◌⊎◌, inl, inr}
use Prim.Native.Nat.{ℕ}
use Rattle.network.specs.Flows.{Flow, Network, Formed, Sound}
use Rattle.network.specs.Overlap.{Apart, Clash}
use Rattle.network.specs.Run.{Sent, Run, Waits, frame}
use Rattle.network.specs.Theorems.{Follow, WaitsExactlyWhereFlowsOverlap}
use Rattle.network.proofs.NoWait.{no_wait}
use Rattle.network.proofs.OverlapWaits.{overlap-waits}
use Rattle.network.proofs.OverlapDecided.{apart_or-clash}
use Rattle.network.proofs.RunsExist.{runs_exist}

-- a frame that keeps its plan does not wait
apart_no-waits : (net : Network) (flows : List Flow) (gate : ℕ → ℕ → ℕ) (sent : Sent) → Sound net → Formed net flows → Follow net flows gate → Apart flows → Run net flows gate sent → ¬ Waits net flows sent
apart_no-waits net flows gate sent sound formed follow apart run waits =
    let f = waits.f in
    let h = waits.h in
    let kept = no_wait net flows gate sent sound formed apart follow run waits.j waits.a f waits.flow in
    let at = kept.only waits.k waits.r h waits.ready in
    waits.late (subst (λ (r : ℕ). sent h.port r ≡ frame f h waits.a) (sym at) (kept.begun waits.k h waits.hop))

-- frames wait exactly where flows overlap
pub waits_exactly_where_flows_overlap : WaitsExactlyWhereFlowsOverlap
waits_exactly_where_flows_overlap net flows gate sound formed follow = record {
  none = λ apart sent run. apart_no-waits net flows gate sent sound formed follow apart run;
  apart = λ never. elim decided [
    | inl apart ↦ apart
    | inr clash ↦ let (sent, run, waits) = some clash in absurd (never sent run waits)
  ];
  some = some;
  clash = λ sent run waits. elim decided [
    | inl apart ↦ absurd (apart_no-waits net flows gate sent sound formed follow apart run waits)
    | inr clash ↦ clash
  ];
}
  where
    decided : Apart flows ⊎ Clash flows
    decided = apart_or-clash flows formed.each

    some : Clash flows → (sent : Sent) × Run net flows gate sent × Waits net flows sent
    some clash =
        let (sent, run) = runs_exist net flows gate formed in
        (sent, run, overlap-waits net flows gate sent formed clash run)
