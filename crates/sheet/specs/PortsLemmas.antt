-- The port record: its reading and its writing undo each other.
use Rattle.std.specs.Prelude.{◌≡◌, ℕ, List, [], ◌∷◌, length, Ok, slice_index_or, refl}
use Rattle.std.proofs.Common.{sym, ap, subst, ◌∙◌, arith}
use Rattle.sheet.specs.declared.port.PortRecord.{PortRecord}
use Rattle.sheet.specs.Fields.{Octets, field, number, octets, Part, part, packed, Fit}
use Rattle.sheet.specs.Ports.{port_of, port_spare, port_limits, port_parts, read_port, judge_port, written_port}
use Rattle.sheet.specs.Judged.{Inside, Clean, clean_from_judged, judged_clean, read_from_accepted, reading_judged, accepted_clean}
use Rattle.sheet.specs.Packed.{unpacked, unpacked_octets, octets_packed}

-- the bits of its fields
abbrev port_widths : List ℕ
port_widths = 17 ∷ 20 ∷ 14 ∷ 13 ∷ []

-- within its limits each field fits its bits
fit : (x : PortRecord) → Inside (port_limits x) → Fit (port_parts x)
fit x i = omega arith

-- octets with the fields of a record inside its limits read as that record
reads-parts :
    (x : PortRecord) (k : ℕ) (s : List ℕ)
    → length s ≡ 8 → unpacked port_widths (number s) ≡ port_parts x → Inside (port_limits x) → read_port k s ≡ Ok x
reads-parts x k s l all inside =
    let at : (i : ℕ) → (slice_index_or (unpacked port_widths (number s)) i (part 0 0)).value ≡ (slice_index_or (port_parts x) i (part 0 0)).value
    = λ i. ap (λ (fs : List Part). (slice_index_or fs i (part 0 0)).value) all in
    let same : port_of s ≡ x = λ i. record { delay = at 0 i; processing = at 1 i; best_effort = at 2 i } in
    let spare : field 8 51 13 s ≡ 0 = at 3 in
    let clean : Clean (port_spare s) (port_limits (port_of s))
    = record { zeros_inside = omega arith; limits_inside = subst (λ (y : PortRecord). Inside (port_limits y)) (sym same) inside } in
    reading_judged (port_of s) 8 k s _ l ∙ accepted_clean (port_of s) k (port_spare s) (port_limits (port_of s)) clean ∙ ap Ok same

pub port-readback : (x : PortRecord) (j k : ℕ) → judge_port j x ≡ Ok tt → read_port k (written_port x) ≡ Ok x
port-readback x j k e =
    let clean = clean_from_judged j [] (port_limits x) e in
    reads-parts x k (written_port x) refl
    (unpacked_octets 8 (port_parts x) (fit x clean.limits_inside) refl) clean.limits_inside

pub port-writable : (x : PortRecord) (j k : ℕ) (s : List ℕ) → read_port k s ≡ Ok x → judge_port j x ≡ Ok tt
port-writable x j k s e =
    let r = read_from_accepted 8 k s (port_spare s) (port_limits (port_of s)) e in
    rw (← r.same) (judged_clean j [] (port_limits (port_of s)) (record { zeros_inside = tt; limits_inside = r.clean.limits_inside }))

pub port-rewritten : (x : PortRecord) (k : ℕ) (s : List ℕ) → Octets s → read_port k s ≡ Ok x → written_port x ≡ s
port-rewritten x k s o e =
    let r = read_from_accepted 8 k s (port_spare s) (port_limits (port_of s)) e in
    let zero : 0 ≡ field 8 51 13 s = omega (arith, r.clean.zeros_inside) in
    let parts : port_parts x ≡ unpacked port_widths (number s)
    = ap port_parts (sym r.same)
    ∙ ap (λ (v : ℕ). part 17 (field 8 0 17 s) ∷ part 20 (field 8 17 20 s) ∷ part 14 (field 8 37 14 s) ∷ part 13 v ∷ []) zero in
    ap (λ (fs : List Part). octets 8 (packed fs)) parts ∙ octets_packed 8 port_widths s o r.long refl
