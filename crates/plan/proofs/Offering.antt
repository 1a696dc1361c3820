-- The answer to an offer, check by check, and what a done one gives.
-- Assumes nothing.
use Rattle.std.proofs.Common.{◌≡◌, ℕ, ◌<◌, Bool, true, false, cond, leb, List, ◌∷◌, length, Some, None, Ok, Err, Option, Result, refl, ap, ◌∙◌, subst, arith}
use Rattle.std.proofs.lemmas.Bool.{leb-false}
use Rattle.fault.specs.declared.kinds.PlanFault.{PlanFault}
use Rattle.fault.specs.declared.kinds.PlanFault.TheVariants.{NumberHeld, Full, Start, Taken, NoStart}
use Rattle.fault.specs.declared.kinds.RecordFault.{RecordFault}
use Rattle.sheet.specs.declared.flow.FlowRecord.{FlowRecord}
use Rattle.sheet.specs.Flows.{read_flow}
use Rattle.sheet.specs.Sheets.{read_at}
use Rattle.network.specs.Flows.{Flow, Network}
use Rattle.network.specs.Overlap.{starting}
use Rattle.planning.specs.Offers.{Offered, held, unfit, placed, answer, flow}
use Rattle.planning.specs.Overlaps.{fits, earliest}
use Rattle.planning.specs.Setups.{Setup, network}
use Rattle.planning.proofs.Lists.{Least, least-is}
use Rattle.plan.specs.Calls.{Wires, Model, offered}
use Rattle.plan.specs.Steps.{added}

-- an offer of a record that was read, of a plan that is set up
module _ (w : Wires) (m : Model) (sheet : List ℕ) (k : ℕ) (x : FlowRecord) (c : Setup) (read : read_at 21 read_flow k sheet ≡ Ok x) (ready : m.setup ≡ Some c) where
  pub added_read : (s : ℕ) → added w m sheet k s ≡ flow (network w.meaning c) (offered x) s ∷ m.held
  added_read s =
      ap (λ (o : Option Setup). elim o [ None ↦ m.held | Some c ↦ elim (read_at 21 read_flow k sheet) [ Err _ ↦ m.held | Ok y ↦ flow (network w.meaning c) (offered y) s ∷ m.held ] ]) ready
      ∙ ap (λ (r : Result FlowRecord RecordFault). elim r [ Err _ ↦ m.held | Ok y ↦ flow (network w.meaning c) (offered y) s ∷ m.held ]) read

-- the answer by what each check finds
module _ (net : Network) (most : ℕ) (flows : List Flow) (x : Offered) where
  found : Bool → Bool → Option PlanFault → Result ℕ PlanFault
  found named full bad = elim (cond named (Some NumberHeld) (cond full (Some Full) bad)) [ Some e ↦ Err e | None ↦ placed flows x.chosen (flow net x 0) ]

  answer-found : {named full : Bool} {bad : Option PlanFault} → held x.number flows ≡ named → leb 64 (length flows) ≡ full → unfit net most x ≡ bad → answer net most flows x ≡ found named full bad
  unfolding found
  answer-found named full bad = λ i. found (named i) (full i) (bad i)

  pub answer-held : held x.number flows ≡ true → answer net most flows x ≡ Err NumberHeld
  unfolding found
  answer-held named = answer-found named refl refl

  pub answer_full : held x.number flows ≡ false → leb 64 (length flows) ≡ true → answer net most flows x ≡ Err Full
  unfolding found
  answer_full new full = answer-found new full refl

  pub answer-unfit : {e : PlanFault} → held x.number flows ≡ false → leb 64 (length flows) ≡ false → unfit net most x ≡ Some e → answer net most flows x ≡ Err e
  unfolding found
  answer-unfit new room bad = answer-found new room bad

  pub answer-placed : held x.number flows ≡ false → leb 64 (length flows) ≡ false → unfit net most x ≡ None → answer net most flows x ≡ placed flows x.chosen (flow net x 0)
  unfolding found
  answer-placed new room fit = answer-found new room fit

-- a done placing has a start below the period at which the flow fits
pub placed-fits : (flows : List Flow) (o : Option ℕ) (f : Flow) (s : ℕ) → placed flows o f ≡ Ok s → (s < f.period) × (fits flows (starting s f) ≡ true)
placed-fits flows (Some r) f s e = go (leb f.period r) (fits flows (starting r f)) refl refl e
  where
    go : (late fit : Bool) → leb f.period r ≡ late → fits flows (starting r f) ≡ fit → ◌≡◌ {A = Result ℕ PlanFault} (cond late (Err Start) (cond fit (Ok r) (Err Taken))) (Ok s) →
        (s < f.period) × (fits flows (starting s f) ≡ true)
    go true fit late fitting e = let never : ◌≡◌ {A = ℕ} 0 1 = cc in absurd (omega arith)
    go false true late fitting e =
        let same : r ≡ s = cc in
        (let below = leb-false f.period r late in omega arith, subst (λ (t : ℕ). fits flows (starting t f) ≡ true) same fitting)
    go false false late fitting e = let never : ◌≡◌ {A = ℕ} 0 1 = cc in absurd (omega arith)
placed-fits flows None f s e = go (earliest flows f) (least-is (λ r. fits flows (starting r f)) 0 f.period) e
  where
    go : (o : Option ℕ) → Least (λ r. fits flows (starting r f)) 0 f.period o → ◌≡◌ {A = Result ℕ PlanFault} (elim o [ Some r ↦ Ok r | None ↦ Err NoStart ]) (Ok s) →
        (s < f.period) × (fits flows (starting s f) ≡ true)
    go (Some r) (from, below, passes, before) e = let same : r ≡ s = cc in (omega arith, subst (λ (t : ℕ). fits flows (starting t f) ≡ true) same passes)
    go None before e = let never : ◌≡◌ {A = ℕ} 0 1 = cc in absurd (omega arith)
