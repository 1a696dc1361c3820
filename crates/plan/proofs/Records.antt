-- What the records that a plan accepts keep: a port's best-effort length, and a flow's length, period and route.
-- Assumes nothing.
use Rattle.std.proofs.Common.{◌≡◌, ℕ, zero, suc, ◌≤◌, List, [], ◌∷◌, length, Ok, Err, Result, refl, subst, arith, length-take}
use Rattle.std.specs.List.{AllByRecursion as All}
use Rattle.fault.specs.declared.kinds.RecordFault.{RecordFault}
use Rattle.fault.specs.declared.kinds.SheetFault.{SheetFault}
use Rattle.sheet.specs.declared.flow.FlowRecord.{FlowRecord}
use Rattle.sheet.specs.declared.port.PortRecord.{PortRecord}
use Rattle.sheet.specs.Fields.{field}
use Rattle.sheet.specs.Flows.{flow_of, flow_zeros, flow_limits, idle_start, read_flow}
use Rattle.sheet.specs.Ports.{port_of, port_spare, port_limits, read_port}
use Rattle.sheet.specs.Sheets.{octets_at, read_by, read_at, record_count, before, read_from, read_count, read_sheet}
use Rattle.sheet.specs.Judged.{read_from_accepted}
use Rattle.planning.specs.Offers.{Recorded}
use Rattle.plan.specs.Calls.{offered}
use Rattle.plan.specs.Offers.{Limited}

-- what is refused is not done
pub refused_not-done : {A E P : Type 0} {x : A} {f : E} → ◌≡◌ {A = Result A E} (Err f) (Ok x) → P
refused_not-done e = let never : ◌≡◌ {A = ℕ} 0 1 = cc in absurd (omega arith)

-- what holds of each record that a reading accepts holds of a record of a sheet, and of each record of a whole sheet
module _ {R : Type 0} (P : R → Type 0) (z : ℕ) (reading : ℕ → List ℕ → Result R RecordFault)
    (each : (k : ℕ) (s : List ℕ) (x : R) → reading k s ≡ Ok x → P x) where
  pub read_at_ok : (k : ℕ) (s : List ℕ) (x : R) → read_at z reading k s ≡ Ok x → P x
  read_at_ok k s x e = go (octets_at z k s) e
    where
      go : (r : Result (List ℕ) SheetFault) → read_by (reading k) r ≡ Ok x → P x
      go (Ok t) e = each k t x e
      go (Err f) e = refused_not-done e

  read_from_ok : (s : List ℕ) (n k : ℕ) (xs : List R) → read_from (λ i. read_at z reading i s) n k ≡ Ok xs → All P xs
  read_from_ok s zero k xs e = let none : [] ≡ xs = cc in subst (All P) none tt
  read_from_ok s (suc n) k xs e = go (read_at z reading k s) (read_from (λ i. read_at z reading i s) n (suc k)) refl refl e (read_from_ok s n (suc k))
    where
      go : (r : Result R RecordFault) (rest : Result (List R) RecordFault) → read_at z reading k s ≡ r → read_from (λ i. read_at z reading i s) n (suc k) ≡ rest →
          before r rest ≡ Ok xs → ((ys : List R) → read_from (λ i. read_at z reading i s) n (suc k) ≡ Ok ys → All P ys) → All P xs
      go (Ok y) (Ok ys) is are e all = let same : y ∷ ys ≡ xs = cc in subst (All P) same (read_at_ok k s y is, all ys are)
      go (Ok y) (Err f) is are e all = refused_not-done e
      go (Err f) rest is are e all = refused_not-done e

  pub read_sheet_ok : (s : List ℕ) (xs : List R) → read_sheet z reading s ≡ Ok xs → All P xs
  read_sheet_ok s xs e = go (record_count z s) e
    where
      go : (r : Result ℕ SheetFault) → read_count z reading s r ≡ Ok xs → All P xs
      go (Ok n) e = read_from_ok s n 0 xs e
      go (Err f) e = refused_not-done e

-- a port has a best-effort length of at least 64
pub best-least : (k : ℕ) (s : List ℕ) (x : PortRecord) → read_port k s ≡ Ok x → 64 ≤ x.best_effort
best-least k s x e =
    let read = read_from_accepted 8 k s (port_spare s) (port_limits (port_of s)) e in
    let limits = read.clean.limits_inside in
    subst (λ (y : PortRecord). 64 ≤ y.best_effort) read.same (omega arith)

-- a flow record is within the limits that its offer needs
pub flow_limited : (k : ℕ) (s : List ℕ) (x : FlowRecord) → read_flow k s ≡ Ok x → Limited x
flow_limited k s x e =
    let read = read_from_accepted 21 k s (flow_zeros (idle_start (flow_of s).start (field 21 91 30 s)) (field 21 165 3 s) (flow_of s)) (flow_limits (flow_of s)) e in
    let limits = read.clean.limits_inside in
    subst Limited read.same
    (record {
      length_least = omega arith;
      period_least = omega arith;
      period_most = omega arith;
      hops_least = omega arith;
      hops_most = omega arith;
      slots = refl;
    })

-- the route of a record within its limits has at most 8 hops
pub route_few : {x : FlowRecord} → Limited x → length (offered x).route ≤ 8
route_few limited = let most = limited.hops_most in simp length-take (omega arith)

-- so it keeps what every accepted one does
pub flow-recorded : (k : ℕ) (s : List ℕ) (x : FlowRecord) → read_flow k s ≡ Ok x → Recorded (offered x)
flow-recorded k s x e =
    let limited = flow_limited k s x e in
    let some = length-take x.hops x.ports in
    record { length_least = limited.length_least; period_least = limited.period_least; some = omega arith }
