-- The gate record: its reading and its writing undo each other.
use Rattle.std.specs.Prelude.{◌≡◌, ◌≢◌, ℕ, ◌+◌, ◌*◌, ◌/◌, ◌%◌, ◌<◌, List, [], ◌∷◌, length, Ok, Err, Result, slice_index, slice_index_or, refl}
use Rattle.std.proofs.Common.{sym, ap, subst, ◌∙◌, arith}
use Rattle.fault.specs.declared.kinds.RecordFault.{RecordFault}
use Rattle.fault.specs.declared.kinds.RecordFault.TheVariants.{OutOfLimits}
use Rattle.sheet.specs.declared.limited.Limited.{Limited}
use Rattle.sheet.specs.declared.gate.GateRecord.{GateRecord}
use Rattle.sheet.specs.declared.gate.GateState.{GateState}
use Rattle.sheet.specs.declared.gate.GateState.TheVariants.{Scheduled, BestEffort, Closed}
use Rattle.sheet.specs.Fields.{Octets, field, number, octets, Part, part, packed, Fit}
use Rattle.sheet.specs.Gates.{octet_of, state_of, gate_of, gate_spare, gate_limits, gate_parts, read_gate, judge_gate, written_gate}
use Rattle.sheet.specs.Limits.{from_to, zero_at, refusal, judged, accepted}
use Rattle.sheet.specs.Elements.{listed}
use Rattle.sheet.specs.Judged.{Inside, none_from_inside, outside_differs, Clean, clean_from_judged, judged_clean, read_from_accepted, reading_judged, reading_from, accepted_clean}
use Rattle.sheet.specs.Packed.{unpacked, unpacked_octets, octets_packed}

-- the bits of its fields
abbrev gate_widths : List ℕ
gate_widths = 8 ∷ 2 ∷ 30 ∷ []

octet_of-lt : (s : GateState) → octet_of s < 256
octet_of-lt Scheduled = omega arith
octet_of-lt BestEffort = omega arith
octet_of-lt Closed = omega arith

pub state_of-octet_of : (s : GateState) → state_of (octet_of s) ≡ s
state_of-octet_of Scheduled = refl
state_of-octet_of BestEffort = refl
state_of-octet_of Closed = refl

-- within its limits each field fits its bits
fit : (n : ℕ) (x : GateRecord) → Inside (gate_limits n x) → Fit (gate_parts x)
fit n x i = let octet = octet_of-lt x.state in omega arith

-- octets with the fields of a record inside its limits read as that record
reads-parts :
    (x : GateRecord) (k : ℕ) (s : List ℕ)
    → length s ≡ 5 → unpacked gate_widths (number s) ≡ gate_parts x → Inside (gate_limits (octet_of x.state) x) → read_gate k s ≡ Ok x
reads-parts x k s l all inside =
    let at : (i : ℕ) → (slice_index_or (unpacked gate_widths (number s)) i (part 0 0)).value ≡ (slice_index_or (gate_parts x) i (part 0 0)).value
    = λ i. ap (λ (fs : List Part). (slice_index_or fs i (part 0 0)).value) all in
    let state : state_of (field 5 0 8 s) ≡ x.state = ap state_of (at 0) ∙ state_of-octet_of x.state in
    let same : gate_of s ≡ x = λ i. record { state = state i; duration = at 2 i } in
    let octet : field 5 0 8 s ≡ octet_of x.state = at 0 in
    let limits : Inside (gate_limits (field 5 0 8 s) (gate_of s))
    = subst (λ (y : GateRecord). Inside (gate_limits (field 5 0 8 s) y)) (sym same)
    (subst (λ (n : ℕ). Inside (gate_limits n x)) (sym octet) inside) in
    let spare : field 5 8 2 s ≡ 0 = at 1 in
    let clean : Clean (gate_spare s) (gate_limits (field 5 0 8 s) (gate_of s))
    = record { zeros_inside = omega arith; limits_inside = limits } in
    reading_judged (gate_of s) 5 k s _ l
    ∙ accepted_clean (gate_of s) k (gate_spare s) (gate_limits (field 5 0 8 s) (gate_of s)) clean
    ∙ ap Ok same

pub gate-readback : (x : GateRecord) (j k : ℕ) → judge_gate j x ≡ Ok tt → read_gate k (written_gate x) ≡ Ok x
gate-readback x j k e =
    let inside = (clean_from_judged j [] (gate_limits (octet_of x.state) x) e).limits_inside in
    reads-parts x k (written_gate x) refl (unpacked_octets 5 (gate_parts x) (fit _ x inside) refl) inside

-- the state octet of an accepted record is the octet of its state
pub octet-is : (s : List ℕ) → Inside (gate_limits (field 5 0 8 s) (gate_of s)) → octet_of (gate_of s).state ≡ field 5 0 8 s
octet-is s i = let low = i.0 in let high = i.1 in omega arith

pub gate-writable : (x : GateRecord) (j k : ℕ) (s : List ℕ) → read_gate k s ≡ Ok x → judge_gate j x ≡ Ok tt
gate-writable x j k s e =
    let r = read_from_accepted 5 k s (gate_spare s) (gate_limits (field 5 0 8 s) (gate_of s)) e in
    let inside = r.clean.limits_inside in
    let own : Inside (gate_limits (octet_of (gate_of s).state) (gate_of s))
    = subst (λ (n : ℕ). Inside (gate_limits n (gate_of s))) (sym (octet-is s inside)) inside in
    rw (← r.same)
    (judged_clean j [] (gate_limits (octet_of (gate_of s).state) (gate_of s)) (record { zeros_inside = tt; limits_inside = own }))

pub gate-rewritten : (x : GateRecord) (k : ℕ) (s : List ℕ) → Octets s → read_gate k s ≡ Ok x → written_gate x ≡ s
gate-rewritten x k s o e =
    let r = read_from_accepted 5 k s (gate_spare s) (gate_limits (field 5 0 8 s) (gate_of s)) e in
    let octet = octet-is s r.clean.limits_inside in
    let zero : 0 ≡ field 5 8 2 s = omega (arith, r.clean.zeros_inside) in
    let parts : gate_parts x ≡ unpacked gate_widths (number s)
    = ap gate_parts (sym r.same) ∙ (λ i. part 8 (octet i) ∷ part 2 (zero i) ∷ part 30 (field 5 10 30 s) ∷ []) in
    ap (λ (fs : List Part). octets 5 (packed fs)) parts ∙ octets_packed 5 gate_widths s o r.long refl

-- the number of the four octets behind the state octet
abbrev pub word : List ℕ → ℕ
word s = slice_index s 1 * 16777216 + slice_index s 2 * 65536 + slice_index s 3 * 256 + slice_index s 4

-- the fields, from the state octet and the word
record Apart (s : List ℕ) : Type 0 where
  state : field 5 0 8 s ≡ slice_index s 0
  spare : field 5 8 2 s ≡ word s / 1073741824
  duration : field 5 10 30 s ≡ word s % 1073741824

apart : (s : List ℕ) → Octets s → length s ≡ 5 → Apart s
apart s o l =
    let all = ap number (listed 5 s l) in
    let first = o 0 in
    let second = o 1 in
    let third = o 2 in
    let fourth = o 3 in
    let fifth = o 4 in
    record { state = omega arith; spare = omega arith; duration = omega arith }

-- the reading, from the state octet and the word
module _ (k : ℕ) (s : List ℕ) (o : Octets s) (l : length s ≡ 5) (w : ℕ) (is_IsWord : w ≡ word s) (t : GateState) (is_state : t ≡ state_of (slice_index s 0)) where
  pub gate_reading :
      (j : Result (Unit {0}) RecordFault) (z : Limited) (ls : List Limited)
      → z ≡ zero_at 8 (w / 1073741824) → ls ≡ gate_limits (slice_index s 0) (record { state = t; duration = w % 1073741824 })
      → j ≡ judged k (z ∷ []) ls → accepted j (record { state = t; duration = w % 1073741824 }) ≡ read_gate k s
  gate_reading j z ls zero limits e =
      let a = apart s o l in
      let state : t ≡ state_of (field 5 0 8 s) = is_state ∙ ap state_of (sym a.state) in
      let duration : w % 1073741824 ≡ field 5 10 30 s = ap (λ (v : ℕ). v % 1073741824) is_IsWord ∙ sym a.duration in
      let spare : w / 1073741824 ≡ field 5 8 2 s = ap (λ (v : ℕ). v / 1073741824) is_IsWord ∙ sym a.spare in
      let same : record { state = t; duration = w % 1073741824 } ≡ gate_of s
      = λ i. record { state = state i; duration = duration i } in
      let zeros : z ∷ [] ≡ gate_spare s = (λ i. zero i ∷ []) ∙ (λ i. zero_at 8 (spare i) ∷ []) in
      reading_from 5 k s j l zeros (limits ∙ (λ i. gate_limits (sym a.state i) (same i))) same e

-- the readings of five octets whose spare bits are zero, from the state octet and the word
module _ (k : ℕ) (s : List ℕ) (o : Octets s) (l : length s ≡ 5) (w : ℕ) (is_IsWord : w ≡ word s) (spare_zero : w / 1073741824 ≡ 0) where
  spare-zero : field 5 8 2 s ≡ 0
  spare-zero = (apart s o l).spare ∙ ap (λ (v : ℕ). v / 1073741824) (sym is_IsWord) ∙ spare_zero

  -- the octet of a state
  pub read-known :
      (t : GateState) → octet_of t ≡ slice_index s 0 → (j : Result (Unit {0}) RecordFault)
      → j ≡ judge_gate k (record { state = t; duration = w }) → accepted j (record { state = t; duration = w }) ≡ read_gate k s
  read-known t known j e =
      let a = apart s o l in
      let octet : octet_of t ≡ field 5 0 8 s = known ∙ sym a.state in
      let state : t ≡ state_of (field 5 0 8 s) = sym (state_of-octet_of t) ∙ ap state_of octet in
      let low : w % 1073741824 ≡ w = omega arith in
      let duration : w ≡ field 5 10 30 s = sym low ∙ ap (λ (v : ℕ). v % 1073741824) is_IsWord ∙ sym a.duration in
      let same : record { state = t; duration = w } ≡ gate_of s = λ i. record { state = state i; duration = duration i } in
      reading_from 5 k s j l (λ i. zero_at 8 (sym spare-zero i) ∷ []) (λ i. gate_limits (octet i) (same i)) same e

  -- any other octet
  pub read-unknown : ((t : GateState) → octet_of t ≢ slice_index s 0) → Err (OutOfLimits k 0) ≡ read_gate k s
  read-unknown unknown =
      let a = apart s o l in
      let differ : field 5 0 8 s ≢ octet_of (gate_of s).state = λ e. unknown (gate_of s).state (sym e ∙ a.state) in
      let zeros : Inside (gate_spare s) = let zero = spare-zero in omega arith in
      let judgment : judged k (gate_spare s) (gate_limits (field 5 0 8 s) (gate_of s)) ≡ Err (OutOfLimits k 0)
      = λ i. refusal k (none_from_inside (gate_spare s) zeros i) (outside_differs 0 (field 5 0 8 s) (octet_of (gate_of s).state) (from_to 10 (gate_of s).duration 1 1_000_000_000 ∷ []) differ i) in
      sym (reading_judged (gate_of s) 5 k s _ l ∙ ap (λ (j : Result (Unit {0}) RecordFault). accepted j (gate_of s)) judgment)
