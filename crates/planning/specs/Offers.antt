-- What an offer tells, the flow that it makes, and its answer: the refusals in their order, or the start.
-- Assumes nothing.
use Rattle.std.specs.Prelude.{ℕ, suc, ◌+◌, ◌/◌, ◌%◌, ◌≤◌, max, Bool, true, false, cond, not, ◌&&◌, ◌||◌, eqb, List, [], ◌∷◌, length, Some, None, Ok, Err, Option, Result, ◌==◌, nat_le, nat_lt}
use Rattle.fault.specs.declared.kinds.PlanFault.{PlanFault}
use Rattle.fault.specs.declared.kinds.PlanFault.TheVariants.{NumberHeld, Full, Period, Route, Length, WireTime, Deadline, Start, Taken, NoStart}
use Rattle.network.specs.Flows.{Hop, Flow, Network, step, total}
use Rattle.network.specs.Overlap.{starting}
use Rattle.planning.specs.Lists.{any}
use Rattle.planning.specs.Overlaps.{fits, earliest}

-- a flow as it is offered: its number, length, period T and deadline, its start where one is chosen, and the ports of its route
pub record Offered : Type 0 where
  pub number : ℕ
  pub length : ℕ
  pub period : ℕ
  pub deadline : ℕ
  pub chosen : Option ℕ
  pub route : List ℕ

-- the hops of a route from offset o on: the wire time of the length on each port, and each offset one step after the one before
abbrev pub hops : Network → ℕ → ℕ → List ℕ → List Hop
hops net l o [] = []
hops net l o (q ∷ qs) =
    let h : Hop = record { port = q; offset = o; wire = net.time q l } in
    h ∷ hops net l (o + step net h) qs

-- the flow offered, with start s
abbrev pub flow : Network → Offered → ℕ → Flow
flow net x s = record {
  number = x.number;
  length = x.length;
  period = x.period;
  deadline = x.deadline;
  start = s;
  hops = hops net x.length 0 x.route;
}

-- a flow of this number is held
abbrev pub held : ℕ → List Flow → Bool
held n flows = any (λ f. eqb f.number n) flows

-- the period divides the cycle, which holds at most 16 periods
abbrev pub regular : ℕ → ℕ → Bool
regular C T = C % T == 0 && nat_le (C / T) 16

-- the first hop from k on whose port is not one of N, or stands earlier in the route
abbrev pub misrouted : ℕ → List ℕ → ℕ → List ℕ → Option ℕ
misrouted N earlier k [] = None
misrouted N earlier k (q ∷ qs) = elim (nat_le N q || any (λ r. eqb r q) earlier) [ true ↦ Some k | false ↦ misrouted N (q ∷ earlier) (suc k) qs ]

-- the first hop from k on whose wire time exceeds the period
abbrev pub overlong : ℕ → ℕ → List Hop → Option ℕ
overlong T k [] = None
overlong T k (h ∷ hs) = elim (nat_lt T h.wire) [ true ↦ Some k | false ↦ overlong T (suc k) hs ]

-- the first refusal that concerns the times of the flow: a wire time above its period, or a total time above its deadline
abbrev pub untimely : Network → Flow → Option PlanFault
untimely net f = elim (overlong f.period 0 f.hops) [
  | Some k ↦ Some (WireTime k)
  | None ↦ cond (nat_lt f.deadline (total net f.hops)) (Some Deadline) None
]

-- the first refusal that concerns the figures of an offer, whatever flows are held: of a line whose largest frame is `most`
abbrev pub unfit : Network → ℕ → Offered → Option PlanFault
unfit net most x =
    cond (not (regular net.cycle x.period)) (Some Period)
    (elim (misrouted net.ports [] 0 x.route) [
      | Some k ↦ Some (Route k)
      | None ↦ cond (nat_lt most x.length) (Some Length) (untimely net (flow net x 0))
    ])

-- the first refusal of an offer that comes before its start
abbrev pub refusal : Network → ℕ → List Flow → Offered → Option PlanFault
refusal net most flows x = cond (held x.number flows) (Some NumberHeld) (cond (nat_le 64 (length flows)) (Some Full) (unfit net most x))

-- the start of a flow beside the flows: the chosen one if it is below the period and fits, or the earliest
abbrev pub placed : List Flow → Option ℕ → Flow → Result ℕ PlanFault
placed flows (Some s) f = cond (nat_le f.period s) (Err Start) (cond (fits flows (starting s f)) (Ok s) (Err Taken))
placed flows None f = elim (earliest flows f) [ Some s ↦ Ok s | None ↦ Err NoStart ]

-- the answer to an offer
abbrev pub answer : Network → ℕ → List Flow → Offered → Result ℕ PlanFault
answer net most flows x = elim (refusal net most flows x) [ Some e ↦ Err e | None ↦ placed flows x.chosen (flow net x 0) ]

-- the flowspan: the greatest start + total time among the flows, or 0
abbrev pub flowspan : Network → List Flow → ℕ
flowspan net [] = 0
flowspan net (f ∷ fs) = max (f.start + total net f.hops) (flowspan net fs)

-- what every accepted flow record keeps
pub record Recorded (x : Offered) : Type 0 where
  pub length_least : 64 ≤ x.length
  pub period_least : 1 ≤ x.period
  pub some : 1 ≤ length x.route
