-- The gate list of port 1 of the worked case, and its octets in a buffer.
-- Assumes nothing.
use Rattle.std.proofs.Common.{◌≡◌, ℕ, ◌*◌, ◌≤◌, cond, leb, List, [], ◌∷◌, ◌++◌, length, take, drop, Some, Ok, Err, Result, sym, refl, ap, ◌∙◌, subst, lit<, lit≤}
use Rattle.std.proofs.lemmas.Bool.{cond-true, le-leb}
use Rattle.fault.specs.declared.kinds.PlanFault.{PlanFault}
use Rattle.sheet.specs.declared.flow.FlowRecord.{FlowRecord}
use Rattle.spans.specs.Formula.{gcd, shares}
use Rattle.spans.specs.Places.{ahead}
use Rattle.network.specs.Flows.{Flow}
use Rattle.network.specs.Gates.{Gate}
use Rattle.planning.specs.Gates.{state_by, Lasts}
use Rattle.planning.specs.Offers.{flow}
use Rattle.planning.specs.Setups.{Setup, network}
use Rattle.planning.proofs.Lasts.{Repeats}
use Rattle.planning.proofs.OnPort.{EachOn}
use Rattle.plan.specs.declared.call.Call.TheVariants.{GateList}
use Rattle.plan.specs.Calls.{Wires, Model, port, offered}
use Rattle.plan.specs.GateOctets.{gate_octets}
use Rattle.plan.specs.Steps.{list_of, buffered}
use Rattle.plan.proofs.Staying.{lasts_more}
use Rattle.figures.specs.Figures.{two_ports, port_record, plan_after, flow_7, flow_9, case_input, case_gates, case_octets}
use Rattle.figures.proofs.Stretches.{repeats_by_test, covered_for, closed_for, open_for, Stretches, then, last, listed_stretches}

-- the set-up of the case
abbrev case-setup : Setup
case-setup = record { cycle = 1_000_000; ports = port port_record ∷ port port_record ∷ [] }

-- the flow of a record at a start
abbrev at-start : FlowRecord → ℕ → Flow
at-start x s = flow (network two_ports.meaning case-setup) (offered x) s

-- the flows that are held, the newest first
abbrev case-flows : List Flow
case-flows = at-start flow_9 2_828 ∷ at-start (flow_7 20_000) 0 ∷ []

case-held : plan_after case_input ≡ record { setup = Some case-setup; held = case-flows }
unfolding shares gcd ahead
case-held = refl

-- the states of port 1
abbrev states : ℕ → ℕ
states = state_by 12_240 case-flows 1

case_repeats : EachOn case-flows 1 Repeats
case_repeats = repeats_by_test case-flows 1 refl

-- the span of flow 7 and that of flow 9 right after it
covered-from_1964 : Lasts states 1_964 8_928 0x80
unfolding ahead
covered-from_1964 =
    lasts_more states 1_964 0x80 864 8_064 0x80
    (covered_for 12_240 case-flows 1 case_repeats 1_964 864 refl)
    (covered_for 12_240 case-flows 1 case_repeats 2_828 8_064 refl) refl

case_stretches : Stretches states 0 case_gates
unfolding ahead
case_stretches =
    let covered = covered_for 12_240 case-flows 1 case_repeats in
    let shut = closed_for 12_240 case-flows 1 case_repeats in
    let opened = open_for 12_240 case-flows 1 case_repeats in
    then (lit< tt) (shut 0 1_964 1_964 (lit≤ tt) (lit≤ tt) refl refl refl) refl
    (then (lit< tt) covered-from_1964 refl
    (then (lit< tt) (opened 10_892 478_832 refl refl) refl
    (then (lit< tt) (shut 489_724 12_240 12_240 (lit≤ tt) (lit≤ tt) refl refl refl) refl
    (then (lit< tt) (covered 501_964 864 refl) refl
    (then (lit< tt) (opened 502_828 486_896 refl refl) refl
    (last (lit< tt) (shut 989_724 10_276 12_240 (lit≤ tt) (lit≤ tt) refl refl refl)))))))

pub case-gates-listed : list_of two_ports (plan_after case_input) 1 ≡ Ok case_gates
case-gates-listed =
    subst (λ (m : Model). list_of two_ports m 1 ≡ Ok case_gates) (sym case-held)
    (listed_stretches two_ports case-setup case-flows 1 case_gates (lit< tt) refl case_stretches)

-- a gate list stands at the front of a buffer that has room for it
octets-buffered : (w : Wires) (m : Model) (q : ℕ) (es : List Gate) (buffer : List ℕ) → list_of w m q ≡ Ok es → 5 * length es ≤ length buffer →
    buffered w m buffer (GateList q ∷ []) ≡ gate_octets es ++ drop (5 * length es) buffer
octets-buffered w m q es buffer listed room =
    ap (λ (r : Result (List Gate) PlanFault). elim r [
      | Err _ ↦ buffer
      | Ok fs ↦ cond (leb (5 * length fs) (length buffer)) (gate_octets fs ++ drop (5 * length fs) buffer) buffer
    ]) listed ∙
    cond-true (leb (5 * length es) (length buffer)) _ _ (le-leb (5 * length es) (length buffer) room)

pub case-octets-buffered : (buffer : List ℕ) → 35 ≤ length buffer → take 10 (buffered two_ports (plan_after case_input) buffer (GateList 1 ∷ [])) ≡ case_octets
case-octets-buffered buffer room = ap (take 10) (octets-buffered two_ports (plan_after case_input) 1 case_gates buffer case-gates-listed room)
