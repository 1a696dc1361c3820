-- What an offer that falls under no refusal before its start has: its flow is well formed at every start below its period, and no flow has its number.
-- Assumes nothing.
use Rattle.std.proofs.Common.{◌≡◌, ℕ, ◌*◌, ◌/◌, ◌%◌, ◌<◌, ◌≤◌, false, not, eqb, ltb, leb, List, [], length, None, arith}
use Rattle.std.proofs.lemmas.Bool.{and_parts, eqb-true, leb-true, leb-false, ltb-false, not-false}
use Rattle.std.proofs.lemmas.Bool.Decides.{Decides-eqb, not_from_Decides}
use Rattle.network.specs.Flows.{At, Hop, Flow, Network, Route, Carried, Well, total}
use Rattle.planning.specs.Offers.{Offered, Recorded, hops, flow, held, regular, misrouted, overlong, refusal}
use Rattle.planning.proofs.Lists.{decides-any}
use Rattle.planning.proofs.Once.{Each}
use Rattle.planning.proofs.Routes.{elim-none, cond-none, Routed, misrouted-none, overlong-none, hops-length, hops-port, hops-wire, hops-first, hops-step}

-- what an offer has that falls under no refusal before its start
pub record Passed (net : Network) (most : ℕ) (flows : List Flow) (x : Offered) : Type 0 where
  pub fresh : Each (λ g. ¬ (g.number ≡ x.number)) flows
  pub room : length flows < 64
  pub divides : net.cycle ≡ net.cycle / x.period * x.period
  pub few : net.cycle / x.period ≤ 16
  pub routed : Routed net.ports [] x.route
  pub length : x.length ≤ most
  pub within : Each (λ h. h.wire ≤ x.period) (hops net x.length 0 x.route)
  pub deadline : total net (hops net x.length 0 x.route) ≤ x.deadline

-- a number that is not held
pub held_none : (n : ℕ) (flows : List Flow) → held n flows ≡ false → Each (λ g. ¬ (g.number ≡ n)) flows
held_none n flows e j g at same =
    not_from_Decides (held n flows) (decides-any (λ f. eqb f.number n) (λ f. f.number ≡ n) flows (λ _ f _. Decides-eqb f.number n)) e
    (record { n = j; x = g; at = at; holds = same })

pub refusal-none : (net : Network) (most : ℕ) (flows : List Flow) (x : Offered) → 1 ≤ x.period → refusal net most flows x ≡ None → Passed net most flows x
refusal-none net most flows x repeats e =
    let (free, e₁) = cond-none (held x.number flows) _ _ e in
    let (room, e₂) = cond-none (leb 64 (length flows)) _ _ e₁ in
    let (irregular, e₃) = cond-none (not (regular net.cycle x.period)) _ _ e₂ in
    let (whole, few) = and_parts (eqb (net.cycle % x.period) 0) (leb (net.cycle / x.period) 16) (not-false (regular net.cycle x.period) irregular) in
    let (routed, e₄) = elim-none (misrouted net.ports [] 0 x.route) _ _ e₃ in
    let (long, e₅) = cond-none (ltb most x.length) _ _ e₄ in
    let (within, e₆) = elim-none (overlong x.period 0 (hops net x.length 0 x.route)) _ _ e₅ in
    let (late, _) = cond-none (ltb x.deadline (total net (hops net x.length 0 x.route))) _ _ e₆ in
    let rest = eqb-true (net.cycle % x.period) 0 whole in
    record {
      fresh = held_none x.number flows free;
      room = leb-false 64 (length flows) room;
      divides = omega arith;
      few = leb-true (net.cycle / x.period) 16 few;
      routed = misrouted-none net.ports [] 0 x.route routed;
      length = ltb-false most x.length long;
      within = overlong-none x.period 0 (hops net x.length 0 x.route) within;
      deadline = ltb-false x.deadline (total net (hops net x.length 0 x.route)) late;
    }

-- every length from 64 to the largest frame takes time on every port
abbrev pub Timed : Network → ℕ → Type 0
Timed net most = (q l : ℕ) → q < net.ports → 64 ≤ l → l ≤ most → 0 < net.time q l

module _ {net : Network} {most : ℕ} {flows : List Flow} {x : Offered} (timed : Timed net most) (recorded : Recorded x) (passed : Passed net most flows x) where
  passed-route : Route net (hops net x.length 0 x.route)
  passed-route = record {
    some = let e = hops-length net x.length x.route 0 in let some = recorded.some in omega arith;
    from = λ h at. hops-first net x.length x.route 0 at;
    on = λ k h i at at'. hops-step net x.length x.route k 0 at at';
    apart = λ j k h i at at'. passed.routed.once j k h.port i.port (hops-port net x.length x.route j 0 at) (hops-port net x.length x.route k 0 at');
  }

  passed-carried : (s k : ℕ) (h : Hop) → At (hops net x.length 0 x.route) k h → Carried net (flow net x s) h
  passed-carried s k h at =
      let low = passed.routed.below k h.port (hops-port net x.length x.route k 0 at) in
      let wire = hops-wire net x.length x.route k 0 at in
      let some = timed h.port x.length low recorded.length_least passed.length in
      record { port = low; wire = wire; some = omega arith; within = passed.within k h at }

  -- its flow is well formed at every start below its period
  pub passed_well : (s : ℕ) → s < x.period → Well net (flow net x s)
  passed_well s below = record {
    periods = net.cycle / x.period;
    divides = passed.divides;
    start = below;
    route = passed-route;
    carried = passed-carried s;
    deadline = passed.deadline;
  }
