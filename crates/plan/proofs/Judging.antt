-- An offer that no check of its figures refuses.
-- Assumes nothing.
use Rattle.std.proofs.Common.{◌≡◌, ℕ, ◌≤◌, Bool, true, cond, not, ltb, [], map, length, take, Some, None, Option, sym, ap, ◌∙◌, arith}
use Rattle.std.proofs.lemmas.Bool.{le-ltb}
use Rattle.fault.specs.declared.kinds.PlanFault.{PlanFault}
use Rattle.fault.specs.declared.kinds.PlanFault.TheVariants.{Period, Route, Length, WireTime, Deadline}
use Rattle.network.specs.Flows.{Network, total}
use Rattle.planning.specs.Offers.{Offered, hops, regular, misrouted, overlong, unfit}
use Rattle.plan.specs.declared.timing.Timing.{Timing}
use Rattle.plan.specs.Rows.{hop}
use Rattle.plan.specs.Timings.{Times, Passed}
use Rattle.plan.proofs.Routes.{port-below, wire-within}

-- the first refusal by what each check finds
abbrev found : Bool → Option ℕ → Bool → Option ℕ → Bool → Option PlanFault
found fits bad long over late =
    cond (not fits) (Some Period) (elim bad [
      | Some k ↦ Some (Route k)
      | None ↦ cond long (Some Length) (elim over [ Some k ↦ Some (WireTime k) | None ↦ cond late (Some Deadline) None ])
    ])

-- the first refusal is that one
unfit-found : (net : Network) (most : ℕ) (x : Offered) {fits : Bool} {bad : Option ℕ} {long : Bool} {over : Option ℕ} {late : Bool} →
    regular net.cycle x.period ≡ fits → misrouted net.ports [] 0 x.route ≡ bad → ltb most x.length ≡ long →
    overlong x.period 0 (hops net x.length 0 x.route) ≡ over → ltb x.deadline (total net (hops net x.length 0 x.route)) ≡ late →
    unfit net most x ≡ found fits bad long over late
unfit-found net most x fits bad long over late = λ i. found (fits i) (bad i) (long i) (over i) (late i)

-- an offer that every check lets through, with the number of ports that the line has told
pub passes : (most : ℕ) (net : Network) (x : Offered) (N : ℕ) (r : Timing) → N ≡ net.ports → Times most net x r → length x.route ≤ 8 →
    true ≡ regular net.cycle x.period → None ≡ misrouted N [] 0 x.route → x.length ≤ most →
    None ≡ overlong x.period 0 (map hop (take (length x.route) r.hops)) → r.total ≤ x.deadline → Passed most net x r
passes most net x N r ports times few fits routed short brief early =
    let long = times.long in
    let present = ap (λ (n : ℕ). misrouted n [] 0 x.route) (sym ports) ∙ sym routed in
    record {
      none =
          unfit-found net most x (sym fits) present (le-ltb most x.length short)
          (sym (brief ∙ ap (overlong x.period 0) times.hops))
          (ap (ltb x.deadline) (sym (times.total ∙ ap (total net) times.hops)) ∙ le-ltb x.deadline r.total early);
      times = times;
      wires = λ least k within. (
        times.wires least short k within (port-below net.ports [] 0 x.route k present within),
        wire-within x.period r.hops (length x.route) 0 k (sym brief) within (omega arith),
      );
    }
