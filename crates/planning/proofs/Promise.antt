-- The promise: from the theorems on runs, from the tests that decide fits and starts, and from the computed gate lists.
-- Assumes nothing.
use Rattle.std.proofs.Common.{◌≡◌, ℕ, suc, ◌<◌, Bool, true, false, cond, List, ◌∷◌, Some, None, Ok, Err, Decides, Option, refl, ap, ◌∙◌, arith}
use Rattle.std.proofs.lemmas.Bool.{lt-leb}
use Rattle.std.proofs.lemmas.Bool.Decides.{not_from_Decides}
use Rattle.fault.specs.declared.kinds.PlanFault.TheVariants.{Start, Taken, NoStart}
use Rattle.network.specs.Flows.{here, next, Flow, Network, Formed, Sound}
use Rattle.network.specs.Overlap.{starting, Overlap, Fits, Clash}
use Rattle.network.specs.Theorems.{Follow}
use Rattle.network.proofs.Lists.{Found}
use Rattle.network.proofs.NoWait.{no_wait}
use Rattle.network.proofs.OverlapWaits.{overlap-waits}
use Rattle.network.proofs.RunsExist.{runs_exist}
use Rattle.network.proofs.WaitsExactly.{waits_exactly_where_flows_overlap}
use Rattle.planning.specs.Gates.{state}
use Rattle.planning.specs.Overlaps.{fits, earliest}
use Rattle.planning.specs.Offers.{Offered, Recorded, flow, refusal, placed, answer}
use Rattle.planning.specs.Promise.{Listed, SomeWaits, NoneWaits, ChosenExactly, EarliestExactly, Keeps, Promised}
use Rattle.planning.proofs.Overlaps.{Repeat, decides-fits, unfit-found, earliest_starts}
use Rattle.planning.proofs.Offers.{Timed, Passed, refusal-none, passed_well}
use Rattle.planning.proofs.Setups.{rules_timed, accepted_sound}
use Rattle.planning.proofs.GateLists.{gates_list, gates_shows}
use Rattle.planning.proofs.Keeps.{formed_repeat, formed_more, keeps_more}

-- gates that show the gate lists have the defined states
listed_follow : {net : Network} {flows : List Flow} {gate : ℕ → ℕ → ℕ} → Formed net flows → Listed net flows gate → Follow net flows gate
listed_follow {net} {flows} {gate} formed listed q y port place = (gates_list net flows q formed).states y (gate q y) (listed q y port place)

-- the gates that have the computed states
computed : (net : Network) (flows : List Flow) → Listed net flows (state net flows)
computed net flows q y port place = gates_shows net flows q y place

-- where two flows overlap, some frame waits
clash-waits : {net : Network} {flows : List Flow} → Formed net flows → Clash flows → SomeWaits net flows
clash-waits {net} {flows} formed clash =
    let (sent, run) = runs_exist net flows (state net flows) formed in
    record {
      gate = state net flows;
      sent = sent;
      listed = computed net flows;
      run = run;
      waits = overlap-waits net flows (state net flows) sent formed clash run;
    }

-- where none do, none does
keeps-none : {net : Network} {flows : List Flow} → Sound net → Keeps net flows → NoneWaits net flows
keeps-none {net} {flows} sound keeps =
    let formed = keeps.formed in
    let (sent, run) = runs_exist net flows (state net flows) formed in
    record {
      lists = λ q port. gates_list net flows q formed;
      gate = state net flows;
      listed = computed net flows;
      sent = sent;
      run = run;
      kept = λ gate sent listed run. no_wait net flows gate sent sound formed keeps.apart (listed_follow formed listed) run;
      none = λ some.
          (waits_exactly_where_flows_overlap net flows some.gate sound formed (listed_follow formed some.listed)).none keeps.apart
          some.sent some.run some.waits;
    }

-- a flow before flows one of which it overlaps
found-clash : {f : Flow} {flows : List Flow} → Found (λ g. Overlap f g) flows → Clash (f ∷ flows)
found-clash {f} found = record { i = 0; j = suc found.n; f = f; g = found.x; one = here; other = next found.at; two = omega arith; overlap = found.holds }

-- the answer to an offer that falls under no refusal before its start
answer_passed : (net : Network) (most : ℕ) (flows : List Flow) (x : Offered) → refusal net most flows x ≡ None →
    answer net most flows x ≡ placed flows x.chosen (flow net x 0)
answer_passed net most flows x passes = λ j. elim (passes j) [ Some e ↦ Err e | None ↦ placed flows x.chosen (flow net x 0) ]

-- with a chosen start below the period
placed-chosen : (flows : List Flow) (f : Flow) (s : ℕ) → s < f.period → placed flows (Some s) f ≡ cond (fits flows (starting s f)) (Ok s) (Err Taken)
placed-chosen flows f s below = λ j. cond (lt-leb f.period s below j) (Err Start) (cond (fits flows (starting s f)) (Ok s) (Err Taken))

module _ {net : Network} {most : ℕ} {flows : List Flow} (sound : Sound net) (timed : Timed net most) (keeps : Keeps net flows)
    (x : Offered) (recorded : Recorded x) (passes : refusal net most flows x ≡ None) where
  passed : Passed net most flows x
  passed = refusal-none net most flows x recorded.period_least passes

  repeat : Repeat flows
  repeat = formed_repeat keeps.formed

  -- at a start where the flow fits, no frame waits with the flow added
  fit_none : (s : ℕ) → s < x.period → Fits flows (flow net x s) → NoneWaits net (flow net x s ∷ flows)
  fit_none s below fit = keeps-none sound (keeps_more (passed_well timed recorded passed s below) passed.fresh fit keeps)

  -- at a start where it does not, some frame does
  unfit-waits : (s : ℕ) → s < x.period → ¬ Fits flows (flow net x s) → SomeWaits net (flow net x s ∷ flows)
  unfit-waits s below unfit =
      clash-waits (formed_more (passed_well timed recorded passed s below) passed.fresh keeps.formed)
      (found-clash (unfit-found flows repeat (flow net x s) recorded.period_least unfit))

  pub chosen-exactly : (s : ℕ) → x.chosen ≡ Some s → s < x.period → ChosenExactly net most flows x s
  chosen-exactly s chosen below =
      go (fits flows (flow net x s))
      (answer_passed net most flows x passes ∙ ap (λ (o : Option ℕ). placed flows o (flow net x 0)) chosen ∙ placed-chosen flows (flow net x 0) s below)
      (decides-fits flows repeat (flow net x s) recorded.period_least)
    where
      go : (b : Bool) → answer net most flows x ≡ cond b (Ok s) (Err Taken) → Decides b (Fits flows (flow net x s)) → ChosenExactly net most flows x s
      go true is decides =
          let none = fit_none s below (decides.0 refl) in
          record {
            refused = λ taken. let z : ◌≡◌ {A = ℕ} 0 1 = cc in absurd (omega arith);
            only = λ waits. absurd (none.none waits);
            done = λ _. (is, none);
          }
      go false is decides = record {
        refused = λ _. unfit-waits s below (not_from_Decides false decides refl);
        only = λ _. is;
        done = λ taken. absurd (taken is);
      }

  pub earliest-exactly : x.chosen ≡ None → EarliestExactly net most flows x
  earliest-exactly free =
      go (earliest flows (flow net x 0)) refl
      (answer_passed net most flows x passes ∙ ap (λ (o : Option ℕ). placed flows o (flow net x 0)) free)
    where
      go : (o : Option ℕ) → earliest flows (flow net x 0) ≡ o → answer net most flows x ≡ elim o [ Some s ↦ Ok s | None ↦ Err NoStart ] → EarliestExactly net most flows x
      go (Some s) e is =
          let first = earliest_starts flows repeat (flow net x 0) recorded.period_least (Some s) e in
          let none = fit_none s first.below first.fits in
          record {
            refused = λ taken. let z : ◌≡◌ {A = ℕ} 0 1 = cc in absurd (omega arith);
            only = λ every. absurd (none.none (every s first.below));
            done = λ _. (s, is, first.below, none, λ r less. let below = first.below in unfit-waits r (omega arith) (first.smallest r less));
          }
      go None e is = record {
        refused = λ _ s below. unfit-waits s below (earliest_starts flows repeat (flow net x 0) recorded.period_least None e s below);
        only = λ _. is;
        done = λ unplaced. absurd (unplaced is);
      }

pub promised : Promised
promised most m c rules accepted flows keeps =
    let sound = accepted_sound most m c rules accepted in
    let timed = rules_timed most m c rules in
    record {
      runs = keeps-none sound keeps;
      chosen = λ x s recorded chosen below passes. chosen-exactly sound timed keeps x recorded passes s chosen below;
      free = λ x recorded free passes. earliest-exactly sound timed keeps x recorded passes free;
    }
