-- Gate records written one after another into a buffer.
-- Assumes nothing.
use Rattle.std.proofs.Common.{◌≡◌, ℕ, ◌+◌, ◌-◌, ◌≤◌, leb, List, [], ◌∷◌, ◌++◌, length, take, drop, Ok, Result, sym, refl, ap, ◌∙◌, ap₂, arith, length-append, length-drop, length-take}
use borrow.Rule.Slice.PartMut.{put_mid}
use Rattle.std.proofs.lemmas.List.{append-nil, append_assoc, take_at, take_rest, drop_at, drop-drop, drop_all}
use Rattle.std.proofs.lemmas.Bool.{le-leb, cond-true}
use Rattle.fault.specs.declared.kinds.PlanFault.{PlanFault}
use Rattle.fault.specs.declared.kinds.RecordFault.{RecordFault}
use Rattle.sheet.specs.declared.gate.GateRecord.{GateRecord}
use Rattle.sheet.specs.declared.gate.GateState.{GateState}
use Rattle.sheet.specs.declared.gate.GateState.TheVariants.{Scheduled, BestEffort, Closed}
use Rattle.sheet.specs.Gates.{octet_of, state_of, gate_limits, judge_gate, written_gate}
use Rattle.sheet.specs.Writings.{answered, put}
use Rattle.sheet.specs.Judged.{judged_clean}
use Rattle.network.specs.Gates.{Gate}
use Rattle.plan.specs.GateOctets.{gate, gate_record, gate_octets}

-- a gate record of a duration within its limits may be written
pub gate-judged : (x : GateRecord) → 1 ≤ x.duration → x.duration ≤ 1000000000 → judge_gate 0 x ≡ Ok tt
gate-judged x least most = judged_clean 0 [] (gate_limits (octet_of x.state) x) (record { zeros_inside = tt; limits_inside = omega arith })

-- what may be written, at an octet of a buffer that has room for it
pub part-written : (s buffer part : List ℕ) (k : ℕ) (j : Result (Unit {0}) RecordFault) (r : Result (Unit {0}) PlanFault) → k + 5 ≤ length buffer → j ≡ Ok tt →
    r ≡ answered 5 (length (take (length buffer - k) (drop k buffer))) j → part ≡ put r 5 s (take (length buffer - k) (drop k buffer)) →
    put_mid k (length buffer - k) buffer part ≡ take k buffer ++ (s ++ drop (k + 5) buffer)
part-written s buffer part k j r room judged answer after =
    let whole = take_rest buffer k in
    let long : 5 ≤ length (take (length buffer - k) (drop k buffer)) = rw whole (simp length-drop (omega arith)) in
    let done : r ≡ Ok tt = answer ∙ ap (answered 5 (length (take (length buffer - k) (drop k buffer)))) judged ∙ cond-true (leb 5 (length (take (length buffer - k) (drop k buffer)))) _ _ (le-leb 5 _ long) in
    let is : part ≡ s ++ drop (k + 5) buffer =
    after ∙ ap (λ (a : Result (Unit {0}) PlanFault). put a 5 s (take (length buffer - k) (drop k buffer))) done ∙
    ap (λ (xs : List ℕ). s ++ drop 5 xs) whole ∙ ap (λ (xs : List ℕ). s ++ xs) (drop-drop 5 k buffer) in
    let none : drop (length buffer - k) (drop k buffer) ≡ [] = drop_all (length buffer - k) (drop k buffer) (simp length-drop (omega arith)) in
    ap (λ (xs : List ℕ). take k buffer ++ (part ++ xs)) none ∙ ap (λ (xs : List ℕ). take k buffer ++ xs) (append-nil part ∙ is)

-- a state is that of its octet
state_of-octet_of : (s : GateState) → state_of (octet_of s) ≡ s
state_of-octet_of Scheduled = refl
state_of-octet_of BestEffort = refl
state_of-octet_of Closed = refl

pub octet-state : {s t : GateState} → octet_of s ≡ octet_of t → s ≡ t
octet-state {s} {t} same = sym (state_of-octet_of s) ∙ ap state_of same ∙ state_of-octet_of t

-- a gate record is that of its state and its duration
gate_record-gate : (x : GateRecord) → gate_record (gate x) ≡ x
gate_record-gate x = λ i. record { state = state_of-octet_of x.state i; duration = x.duration }

-- the first k octets of a buffer, then octets s, then what stands in the buffer from octet n on
abbrev pub filled : ℕ → ℕ → List ℕ → List ℕ → List ℕ
filled k n s buffer = take k buffer ++ (s ++ drop n buffer)

-- 5 octets at k, and then the rest
filled_more : (k n : ℕ) (s rest buffer : List ℕ) → length s ≡ 5 → k + 5 ≤ n → n ≤ length buffer →
    filled (k + 5) n rest (filled k (k + 5) s buffer) ≡ filled k n (s ++ rest) buffer
filled_more k n s rest buffer long below within =
    let front : length (take k buffer ++ s) ≡ k + 5 = simp (length-append, length-take) (omega arith) in
    let split : filled k (k + 5) s buffer ≡ (take k buffer ++ s) ++ drop (k + 5) buffer = sym (append_assoc (take k buffer) s (drop (k + 5) buffer)) in
    let before : take (k + 5) (filled k (k + 5) s buffer) ≡ take k buffer ++ s = ap (take (k + 5)) split ∙ take_at (take k buffer ++ s) (drop (k + 5) buffer) (k + 5) front in
    let behind : drop (k + 5) (filled k (k + 5) s buffer) ≡ drop (k + 5) buffer = ap (drop (k + 5)) split ∙ drop_at (take k buffer ++ s) (drop (k + 5) buffer) (k + 5) front in
    let more : k + 5 + (n - (k + 5)) ≡ n = omega arith in
    let from = λ (xs : List ℕ). sym (drop-drop (n - (k + 5)) (k + 5) xs ∙ ap (λ (m : ℕ). drop m xs) more) in
    let last : drop n (filled k (k + 5) s buffer) ≡ drop n buffer = from (filled k (k + 5) s buffer) ∙ ap (drop (n - (k + 5))) behind ∙ sym (from buffer) in
    ap₂ (λ (xs ys : List ℕ). xs ++ (rest ++ ys)) before last ∙ append_assoc (take k buffer) s (rest ++ drop n buffer) ∙
    ap (λ (xs : List ℕ). take k buffer ++ xs) (sym (append_assoc s rest (drop n buffer)))

-- one gate record more
pub gates_more : (k l n : ℕ) (x : GateRecord) (es all : List Gate) (buffer after : List ℕ) → l ≡ k + 5 → l ≤ n → n ≤ length buffer →
    all ≡ gate x ∷ es → after ≡ filled k (k + 5) (written_gate x) buffer →
    filled l n (gate_octets es) after ≡ filled k n (gate_octets all) buffer
gates_more k l n x es all buffer after behind below within first is =
    ap (λ (m : ℕ). filled m n (gate_octets es) after) behind ∙ ap (filled (k + 5) n (gate_octets es)) is ∙ filled_more k n (written_gate x) (gate_octets es) buffer refl (omega arith) within ∙
    ap (λ (y : GateRecord). filled k n (written_gate y ++ gate_octets es) buffer) (sym (gate_record-gate x)) ∙
    ap (λ (xs : List Gate). filled k n (gate_octets xs) buffer) (sym first)
