-- The flow record: its reading and its writing undo each other.
use Rattle.std.specs.Prelude.{◌≡◌, ℕ, zero, suc, ◌+◌, ◌*◌, ◌/◌, ◌%◌, ◌^◌, ◌<◌, ◌≤◌, Bool, true, false, cond, List, [], ◌∷◌, ◌++◌, length, Some, None, Ok, Err, Option, Result, ◌==◌, nat_lt, slice_index, slice_index_or, refl}
use Rattle.std.proofs.Common.{sym, ap, subst, ◌∙◌, arith}
use Rattle.std.proofs.lemmas.Bool.{cond-true, eq-eqb, eqb-true}
use Rattle.fault.specs.declared.kinds.RecordFault.{RecordFault}
use Rattle.fault.specs.declared.kinds.RecordFault.TheVariants.{OutOfLimits}
use Rattle.sheet.specs.declared.limited.Limited.{Limited}
use Rattle.sheet.specs.declared.flow.FlowRecord.{FlowRecord}
use Rattle.sheet.specs.Fields.{Octets, field, number, octets, Part, part, packed, Fit}
use Rattle.sheet.specs.Flows.{chosen_bit, start_field, start_of, idle_start, flow_of, flow_zeros, flow_limits, eight, head_parts, route_parts, flow_parts, read_flow, judge_flow, written_flow}
use Rattle.sheet.specs.Limits.{judged, accepted}
use Rattle.sheet.specs.Elements.{listed}
use Rattle.sheet.specs.Judged.{Inside, Clean, clean_from_judged, judged_clean, read_from_accepted, reading_judged, reading_from, accepted_clean}
use Rattle.sheet.specs.Packed.{unpacked, unpacked_octets, octets_packed, packed_append, octets_split, octets_above}

pub eight-slots : (k : ℕ) (ports : List ℕ) (r : Result (Unit {0}) RecordFault) → length ports ≡ 8 → eight k ports r ≡ r
eight-slots k ports r l = cond-true (length ports == 8) _ _ (eq-eqb (length ports) 8 l)

-- the reading, from its fields
pub flow_reading :
    (k : ℕ) (s : List ℕ) → length s ≡ 21
    → {x : FlowRecord} → x ≡ flow_of s
    → {w n : ℕ} → w ≡ idle_start x.start (field 21 91 30 s) → n ≡ field 21 165 3 s
    → (j : Result (Unit {0}) RecordFault) {zs ls : List Limited} → zs ≡ flow_zeros w n x → ls ≡ flow_limits x → j ≡ judged k zs ls
    → accepted j x ≡ read_flow k s
flow_reading k s l same idle spare j zeros limits e =
    let start = idle ∙ (λ i. idle_start (same i).start (field 21 91 30 s)) in
    reading_from 21 k s j l (zeros ∙ (λ i. flow_zeros (start i) (spare i) (same i))) (limits ∙ ap flow_limits same) same e

chosen_bit-lt : (t : Option ℕ) → chosen_bit t < 2
chosen_bit-lt (Some v) = omega arith
chosen_bit-lt None = omega arith

-- a slot that is zero or has its limits
slot_lt : (b : Bool) (v : ℕ) → cond b 0 v ≤ 0 → cond b v 0 ≤ 31 → v < 32
slot_lt true v empty limit = omega arith
slot_lt false v empty limit = omega arith

-- within its limits each field fits its bits
pub record Fits (x : FlowRecord) : Type 0 where
  pub head : Fit (head_parts x)
  pub route : Fit (route_parts x.ports)

pub fits : (x : FlowRecord) → Clean (flow_zeros 0 0 x) (flow_limits x) → Fits x
fits x c =
    let slots = c.zeros_inside.2 in
    let limits = c.limits_inside in
    let ports = limits.2.2.2.2.2.2 in
    let bit = chosen_bit-lt x.start in
    record {
      head = omega arith;
      route = (
        slot_lt (nat_lt 0 x.hops) (slice_index x.ports 0) slots.1 ports.1,
        (
          slot_lt (nat_lt 1 x.hops) (slice_index x.ports 1) slots.2.1 ports.2.1,
          (
            slot_lt (nat_lt 2 x.hops) (slice_index x.ports 2) slots.2.2.1 ports.2.2.1,
            (
              slot_lt (nat_lt 3 x.hops) (slice_index x.ports 3) slots.2.2.2.1 ports.2.2.2.1,
              (
                slot_lt (nat_lt 4 x.hops) (slice_index x.ports 4) slots.2.2.2.2.1 ports.2.2.2.2.1,
                (
                  slot_lt (nat_lt 5 x.hops) (slice_index x.ports 5) slots.2.2.2.2.2.1 ports.2.2.2.2.2.1,
                  (
                    slot_lt (nat_lt 6 x.hops) (slice_index x.ports 6) slots.2.2.2.2.2.2.1 ports.2.2.2.2.2.2.1,
                    (
                      slot_lt (nat_lt 7 x.hops) (slice_index x.ports 7) slots.2.2.2.2.2.2.2.1 ports.2.2.2.2.2.2.2.1,
                      tt,
                    ),
                  ),
                ),
              ),
            ),
          ),
        ),
      );
    }

-- a record that may be written has eight slots and is clean
pub record Writable (x : FlowRecord) : Type 0 where
  pub slots : length x.ports ≡ 8
  pub clean : Clean (flow_zeros 0 0 x) (flow_limits x)

pub writable-from-judged : (j : ℕ) (x : FlowRecord) → judge_flow j x ≡ Ok tt → Writable x
writable-from-judged j x e = go (length x.ports == 8) refl e
  where
    go : (b : Bool) → (length x.ports == 8) ≡ b
        → cond b (judged j (flow_zeros 0 0 x) (flow_limits x)) (Err (OutOfLimits j 125)) ≡ Ok tt → Writable x
    go true p r =
        record { slots = eqb-true (length x.ports) 8 p; clean = clean_from_judged j (flow_zeros 0 0 x) (flow_limits x) r }
    go false p r = let u : ◌≡◌ {A = ℕ} 0 1 = cc in absurd (omega arith)

-- the octets, from the head and the route
pub flow-octets :
    (x : FlowRecord) (h r : ℕ) → h ≡ packed (head_parts x) → r ≡ packed (route_parts x.ports) → h < 2 ^ 125 → r < 2 ^ 40
    → octets 16 ((h * 8) % 2 ^ 128 + r / 2 ^ 37) ++ octets 5 ((r * 8) % 2 ^ 64) ≡ written_flow x
flow-octets x h r head route wide narrow =
    sym (octets_split 16 5 (packed (flow_parts x)) ∙ (λ i. octets 16 (high i) ++ low i))
  where
    all : packed (flow_parts x) ≡ h * 8796093022208 + r * 8
    all =
        packed_append (head_parts x) (route_parts x.ports ++ (part 3 0 ∷ []))
        ∙ (let tail = packed_append (route_parts x.ports) (part 3 0 ∷ []) in omega arith)

    high : packed (flow_parts x) / 2 ^ 40 ≡ (h * 8) % 2 ^ 128 + r / 2 ^ 37
    high = ap (λ (y : ℕ). y / 2 ^ 40) all ∙ omega arith

    low : octets 5 (packed (flow_parts x)) ≡ octets 5 ((r * 8) % 2 ^ 64)
    low =
        let e : h * 8796093022208 + r * 8 ≡ h * 8 * 2 ^ 40 + (r * 8) % 2 ^ 64 = omega arith in
        ap (octets 5) (all ∙ e) ∙ octets_above 5 5 (h * 8) ((r * 8) % 2 ^ 64) (omega arith)

start_of-start : (t : Option ℕ) → start_of (chosen_bit t) (start_field t) ≡ t
start_of-start (Some v) = refl
start_of-start None = refl

idle_start-start : (t : Option ℕ) → idle_start (start_of (chosen_bit t) (start_field t)) (start_field t) ≡ 0
idle_start-start (Some v) = refl
idle_start-start None = refl

-- the bits of its fields
abbrev flow_widths : List ℕ
flow_widths = 16 ∷ 14 ∷ 30 ∷ 30 ∷ 1 ∷ 30 ∷ 4 ∷ 5 ∷ 5 ∷ 5 ∷ 5 ∷ 5 ∷ 5 ∷ 5 ∷ 5 ∷ 3 ∷ []

-- cleanness along equations
coe-clean :
    {v n : ℕ} {x y : FlowRecord} → v ≡ 0 → n ≡ 0 → y ≡ x
    → Clean (flow_zeros 0 0 x) (flow_limits x) → Clean (flow_zeros v n y) (flow_limits y)
coe-clean {v = v} {n = n} {x = x} {y = y} idle spare same clean =
    subst (λ (a : ℕ). Clean (flow_zeros a n y) (flow_limits y)) (sym idle)
    (subst (λ (a : ℕ). Clean (flow_zeros 0 a y) (flow_limits y)) (sym spare)
    (subst (λ (a : FlowRecord). Clean (flow_zeros 0 0 a) (flow_limits a)) (sym same) clean))

fit_parts : (x : FlowRecord) → Fits x → Fit (flow_parts x)
fit_parts x f = let head = f.head in let route = f.route in omega arith

-- octets with the fields of a record that may be written read as that record
reads-parts :
    (x : FlowRecord) (k : ℕ) (s : List ℕ)
    → length s ≡ 21 → unpacked flow_widths (number s) ≡ flow_parts x → Writable x → read_flow k s ≡ Ok x
reads-parts x k s l all writable =
    let at : (i : ℕ) → (slice_index_or (unpacked flow_widths (number s)) i (part 0 0)).value ≡ (slice_index_or (flow_parts x) i (part 0 0)).value
    = λ i. ap (λ (fs : List Part). (slice_index_or fs i (part 0 0)).value) all in
    let start : start_of (field 21 90 1 s) (field 21 91 30 s) ≡ x.start
    = (λ i. start_of (at 4 i) (at 5 i)) ∙ start_of-start x.start in
    let idle : idle_start (flow_of s).start (field 21 91 30 s) ≡ 0
    = (λ i. idle_start (start_of (at 4 i) (at 5 i)) (at 5 i)) ∙ idle_start-start x.start in
    let ports : (flow_of s).ports ≡ x.ports
    = (λ i. at 7 i ∷ at 8 i ∷ at 9 i ∷ at 10 i ∷ at 11 i ∷ at 12 i ∷ at 13 i ∷ at 14 i ∷ [])
    ∙ sym (listed 8 x.ports writable.slots) in
    let same : flow_of s ≡ x
    = λ i.
    record {
      number = at 0 i;
      length = at 1 i;
      period = at 2 i;
      deadline = at 3 i;
      start = start i;
      hops = at 6 i;
      ports = ports i;
    } in
    let spare : field 21 165 3 s ≡ 0 = at 15 in
    let clean : Clean (flow_zeros (idle_start (flow_of s).start (field 21 91 30 s)) (field 21 165 3 s) (flow_of s)) (flow_limits (flow_of s))
    = coe-clean idle spare same writable.clean in
    reading_judged (flow_of s) 21 k s _ l ∙ accepted_clean (flow_of s) k _ (flow_limits (flow_of s)) clean ∙ ap Ok same

pub flow-readback : (x : FlowRecord) (j k : ℕ) → judge_flow j x ≡ Ok tt → read_flow k (written_flow x) ≡ Ok x
flow-readback x j k e =
    let writable = writable-from-judged j x e in
    reads-parts x k (written_flow x) refl (unpacked_octets 21 (flow_parts x) (fit_parts x (fits x writable.clean)) refl) writable

-- a start field that is zero where the start is not chosen is the field of its start
idle-zero : (c v : ℕ) → c < 2 → idle_start (start_of c v) v ≡ 0 → (chosen_bit (start_of c v) ≡ c) × (start_field (start_of c v) ≡ v)
idle-zero zero v bit idle = (refl, sym idle)
idle-zero (suc zero) v bit idle = (refl, refl)
idle-zero (suc (suc c)) v bit idle = absurd (omega arith)

-- what an accepted reading says
record Accepted (x : FlowRecord) (s : List ℕ) : Type 0 where
  long : length s ≡ 21
  same : flow_of s ≡ x
  idle : idle_start (flow_of s).start (field 21 91 30 s) ≡ 0
  spare : field 21 165 3 s ≡ 0
  clean : Clean (flow_zeros 0 0 (flow_of s)) (flow_limits (flow_of s))

-- the zeros of an accepted reading
zero_zeros : (v n : ℕ) (y : FlowRecord) → Inside (flow_zeros v n y) → (v ≡ 0) × (n ≡ 0)
zero_zeros v n y i =
    let first = i.1 in
    let last = i.2.2.2.2.2.2.2.2.2.1 in
    (omega arith, omega arith)

accepted-from_read : (x : FlowRecord) (k : ℕ) (s : List ℕ) → read_flow k s ≡ Ok x → Accepted x s
accepted-from_read x k s e =
    let v : ℕ = idle_start (flow_of s).start (field 21 91 30 s) in
    let n : ℕ = field 21 165 3 s in
    let r = read_from_accepted 21 k s (flow_zeros v n (flow_of s)) (flow_limits (flow_of s)) e in
    let z = zero_zeros v n (flow_of s) r.clean.zeros_inside in
    record {
      long = r.long;
      same = r.same;
      idle = z.0;
      spare = z.1;
      clean =
          subst (λ (a : ℕ). Clean (flow_zeros 0 a (flow_of s)) (flow_limits (flow_of s))) z.1
          (subst (λ (a : ℕ). Clean (flow_zeros a n (flow_of s)) (flow_limits (flow_of s))) z.0 r.clean);
    }

pub flow-writable : (x : FlowRecord) (j k : ℕ) (s : List ℕ) → read_flow k s ≡ Ok x → judge_flow j x ≡ Ok tt
flow-writable x j k s e =
    let a = accepted-from_read x k s e in
    subst (λ (y : FlowRecord). judge_flow j y ≡ Ok tt) a.same
    (judged_clean j (flow_zeros 0 0 (flow_of s)) (flow_limits (flow_of s)) a.clean)

-- the fields of an accepted record are those of its octets
parts_read : (x : FlowRecord) (s : List ℕ) → Accepted x s → flow_parts x ≡ unpacked flow_widths (number s)
parts_read x s a =
    let bit : field 21 90 1 s < 2 = omega arith in
    let start = idle-zero (field 21 90 1 s) (field 21 91 30 s) bit a.idle in
    ap flow_parts (sym a.same)
    ∙ (λ i.
    part 16 (field 21 0 16 s) ∷ part 14 (field 21 16 14 s) ∷ part 30 (field 21 30 30 s) ∷ part 30 (field 21 60 30 s)
    ∷ part 1 (start.0 i) ∷ part 30 (start.1 i) ∷ part 4 (field 21 121 4 s)
    ∷ part 5 (field 21 125 5 s) ∷ part 5 (field 21 130 5 s) ∷ part 5 (field 21 135 5 s) ∷ part 5 (field 21 140 5 s)
    ∷ part 5 (field 21 145 5 s) ∷ part 5 (field 21 150 5 s) ∷ part 5 (field 21 155 5 s) ∷ part 5 (field 21 160 5 s)
    ∷ part 3 (sym a.spare i) ∷ [])

pub flow-rewritten : (x : FlowRecord) (k : ℕ) (s : List ℕ) → Octets s → read_flow k s ≡ Ok x → written_flow x ≡ s
flow-rewritten x k s o e =
    let a = accepted-from_read x k s e in
    ap (λ (fs : List Part). octets 21 (packed fs)) (parts_read x s a) ∙ octets_packed 21 flow_widths s o a.long refl
