-- What is promised of the flows that a plan holds: no scheduled frame waits in any run, and an offer is refused for want of a start exactly when one would.
-- Assumes nothing.
use Rattle.std.specs.Prelude.{◌≡◌, ℕ, ◌/◌, ◌<◌, ◌≤◌, List, ◌∷◌, length, Some, None, Ok, Err, ◌≢◌}
use Rattle.fault.specs.declared.kinds.PlanFault.TheVariants.{Taken, NoStart}
use Rattle.line.specs.Meaning.{Meaning, Rules}
use Rattle.network.specs.Flows.{At, Flow, Network, Formed}
use Rattle.network.specs.Overlap.{Apart}
use Rattle.network.specs.Gates.{Shows, GateList}
use Rattle.network.specs.Run.{Sent, Run, Waits}
use Rattle.network.specs.Theorems.{Kept}
use Rattle.planning.specs.Gates.{gates}
use Rattle.planning.specs.Offers.{Offered, Recorded, flow, refusal, answer}
use Rattle.planning.specs.Setups.{Setup, Accepted, network}

-- the gates at each instant's place have the state of the port's gate list there
abbrev pub Listed : Network → List Flow → (ℕ → ℕ → ℕ) → Type 0
Listed net flows gate = (q y : ℕ) → q < net.ports → y < net.cycle → Shows (gates net flows q) y (gate q y)

-- in some run under the gate lists that count all these flows, some scheduled frame waits
pub record SomeWaits (net : Network) (flows : List Flow) : Type 0 where
  pub gate : ℕ → ℕ → ℕ
  pub sent : Sent
  pub listed : Listed net flows gate
  pub run : Run net flows gate sent
  pub waits : Waits net flows sent

-- there are runs under the gate lists, and in every one each frame of each flow begins at each hop the instant it is ready there, and arrives within its deadline
pub record NoneWaits (net : Network) (flows : List Flow) : Type 0 where
  pub lists : (q : ℕ) → q < net.ports → GateList net flows q (gates net flows q)
  pub gate : ℕ → ℕ → ℕ
  pub listed : Listed net flows gate
  pub sent : Sent
  pub run : Run net flows gate sent
  pub kept : (gate : ℕ → ℕ → ℕ) (sent : Sent) → Listed net flows gate → Run net flows gate sent → (j a : ℕ) (f : Flow) → At flows j f → Kept net sent f a
  pub none : SomeWaits net flows → ⊥

-- an offer that falls under no earlier refusal, with a chosen start s below its period: refused exactly when with the flow added at s some frame would wait in some run
pub record ChosenExactly (net : Network) (most : ℕ) (flows : List Flow) (x : Offered) (s : ℕ) : Type 0 where
  pub refused : answer net most flows x ≡ Err Taken → SomeWaits net (flow net x s ∷ flows)
  pub only : SomeWaits net (flow net x s ∷ flows) → answer net most flows x ≡ Err Taken
  pub done : (answer net most flows x ≢ Err Taken) → (answer net most flows x ≡ Ok s) × NoneWaits net (flow net x s ∷ flows)

-- an offer that falls under no earlier refusal, with no start chosen: refused exactly when at every start below its period some frame would wait in some run;
-- else done with the smallest start at which none would in any run
pub record EarliestExactly (net : Network) (most : ℕ) (flows : List Flow) (x : Offered) : Type 0 where
  pub refused : answer net most flows x ≡ Err NoStart → (s : ℕ) → s < x.period → SomeWaits net (flow net x s ∷ flows)
  pub only : ((s : ℕ) → s < x.period → SomeWaits net (flow net x s ∷ flows)) → answer net most flows x ≡ Err NoStart
  pub done : (answer net most flows x ≢ Err NoStart) → (s : ℕ) × (answer net most flows x ≡ Ok s) × (s < x.period) × NoneWaits net (flow net x s ∷ flows) × ((r : ℕ) → r < s → SomeWaits net (flow net x r ∷ flows))

-- flows that a plan can hold: well formed, and no two overlap
pub record Keeps (net : Network) (flows : List Flow) : Type 0 where
  pub formed : Formed net flows
  pub apart : Apart flows

-- at most 64 flows, of which none has more than 16 periods in the cycle
pub record IsFew (net : Network) (flows : List Flow) : Type 0 where
  pub room : length flows ≤ 64
  pub few : (j : ℕ) (f : Flow) → At flows j f → net.cycle / f.period ≤ 16

-- the promise for the flows that a plan holds
pub record Promise (net : Network) (most : ℕ) (flows : List Flow) : Type 0 where
  pub runs : NoneWaits net flows
  pub chosen : (x : Offered) (s : ℕ) → Recorded x → x.chosen ≡ Some s → s < x.period → refusal net most flows x ≡ None → ChosenExactly net most flows x s
  pub free : (x : Offered) → Recorded x → x.chosen ≡ None → refusal net most flows x ≡ None → EarliestExactly net most flows x

-- for every line that keeps the rules and every set-up that it accepts: flows that a plan can hold have the promise
abbrev pub Promised : Type 0
Promised = (most : ℕ) (m : Meaning) (c : Setup) → Rules most m → Accepted most m c → (flows : List Flow) → Keeps (network m c) flows → Promise (network m c) most flows

-- and with the flow of a done offer added they are again such flows
abbrev pub OffersKeep : Type 0
OffersKeep = (most : ℕ) (m : Meaning) (c : Setup) → Rules most m → Accepted most m c → (flows : List Flow) → Keeps (network m c) flows →
    (x : Offered) (s : ℕ) → Recorded x → answer (network m c) most flows x ≡ Ok s → Keeps (network m c) (flow (network m c) x s ∷ flows)

-- and with the flow of a done offer added, flows that are few are so again
abbrev pub OffersStayFew : Type 0
OffersStayFew = (most : ℕ) (net : Network) (flows : List Flow) → IsFew net flows →
    (x : Offered) (s : ℕ) → Recorded x → answer net most flows x ≡ Ok s → IsFew net (flow net x s ∷ flows)
