-- The text of gate lists, record by record and octet by octet.
-- Assumes nothing.
use Rattle.std.proofs.Common.{◌≡◌, ℕ, zero, suc, ◌+◌, ◌-◌, ◌*◌, ◌/◌, ◌<◌, ◌≤◌, ◌^◌, Bool, true, false, cond, leb, List, [], ◌∷◌, ◌++◌, length, get_or, take, drop, Option, Some, Ok, Err, codes, Result, sym, refl, ap, ◌∙◌, add-one, arith}
use Rattle.std.proofs.lemmas.List.{take_at, drop-drop, length-take-le}
use Rattle.std.proofs.lemmas.Fmt.{hex_byte}
use Rattle.std.specs.List.{flat_map}
use Rattle.std.specs.Option.{option_map}
use Rattle.std.specs.Fmt.{radix_digits, radix_prefix, shown_prefix, padded_integral, format_spec}
use Rattle.std.specs.Simd.{first_chunks}
use Rattle.fault.specs.declared.kinds.PlanFault.{PlanFault}
use Rattle.fault.specs.declared.kinds.PlanFault.TheVariants.{Buffer}
use Rattle.network.specs.Gates.{Gate}
use Rattle.sheet.specs.Fields.{number}
use Rattle.plan.specs.Alike.{Alike}
use Rattle.plan.specs.Calls.{Wires, Model}
use Rattle.plan.specs.GateOctets.{gate_octets}
use Rattle.plan.specs.Steps.{list_of, gates_answer, list_written}
use Rattle.plan.proofs.Alike.{list_alike}
use Rattle.plan.proofs.CallsInOrder.{length-gate_octets}
use Rattle.report.specs.GateLists.{hex, hex_octets, record_line, record_lines, list_text, port_text, port_texts}
use Rattle.report.specs.Listings.{refused_line}

-- the duration from the last four of five octets
pub duration-is : (s : List ℕ) → length s ≡ 5 → get_or s 1 0 * 16777216 + get_or s 2 0 * 65536 + get_or s 3 0 * 256 + get_or s 4 0 ≡ number (drop 1 s)
duration-is [] five = absurd (omega arith)
duration-is (a ∷ []) five = absurd (omega arith)
duration-is (a ∷ b ∷ []) five = absurd (omega arith)
duration-is (a ∷ b ∷ c ∷ []) five = absurd (omega arith)
duration-is (a ∷ b ∷ c ∷ d ∷ []) five = absurd (omega arith)
duration-is (a ∷ b ∷ c ∷ d ∷ e ∷ []) five = omega arith
duration-is (a ∷ b ∷ c ∷ d ∷ e ∷ f ∷ s) five = absurd (omega arith)

-- an octet that is printed by `{:02X}`
pub printed-hex : (base : ℕ) (digits : Option (List ℕ)) (p : _) (n : ℕ) → n < 256 → digits ≡ Some (radix_digits 16 true n) → p ≡ format_spec 32 0 4 2 (2 ^ 64 - 1) →
    option_map (padded_integral p false (shown_prefix p (radix_prefix base))) digits ≡ Some (hex n)
printed-hex base digits p n small shown laid =
    (λ i. option_map (padded_integral (laid i) false (shown_prefix (laid i) (radix_prefix base))) (shown i)) ∙ ap (λ (t : List ℕ). Some t) (hex_byte true n small)

-- five octets in hexadecimal
pub hex-octets-five : (s : List ℕ) → length s ≡ 5 →
    codes " " ++ (hex (get_or s 0 0) ++ (codes " " ++ (hex (get_or s 1 0) ++ (codes " " ++ (hex (get_or s 2 0) ++ (codes " " ++ (hex (get_or s 3 0) ++ (codes " " ++ hex (get_or s 4 0))))))))) ≡ hex_octets s
hex-octets-five [] five = absurd (omega arith)
hex-octets-five (a ∷ []) five = absurd (omega arith)
hex-octets-five (a ∷ b ∷ []) five = absurd (omega arith)
hex-octets-five (a ∷ b ∷ c ∷ []) five = absurd (omega arith)
hex-octets-five (a ∷ b ∷ c ∷ d ∷ []) five = absurd (omega arith)
hex-octets-five (a ∷ b ∷ c ∷ d ∷ e ∷ []) five = refl
hex-octets-five (a ∷ b ∷ c ∷ d ∷ e ∷ f ∷ s) five = absurd (omega arith)

-- the lines of n records from record k on are those of their chunks of five octets
pub record-lines_chunks : (s : List ℕ) (n k : ℕ) → record_lines s n k ≡ flat_map record_line (first_chunks 5 n (drop (k * 5) s))
record-lines_chunks s zero k = refl
record-lines_chunks s (suc n) k =
    let next : k * 5 + 5 ≡ suc k * 5 = omega arith in
    ap (λ (t : List ℕ). record_line (take 5 (drop (k * 5) s)) ++ t)
    (record-lines_chunks s n (suc k) ∙ sym (ap (λ (t : List ℕ). flat_map record_line (first_chunks 5 n t)) (drop-drop 5 (k * 5) s ∙ ap (λ (m : ℕ). drop m s) next)))

-- how many records of five octets stand at the front of a buffer
pub length_of_fives : (n : ℕ) (b : List ℕ) → 5 * n ≤ length b → length (take (5 * n) b) / 5 ≡ n
length_of_fives n b room = ap (λ (m : ℕ). m / 5) (length-take-le (5 * n) b room) ∙ (omega arith)

-- what is printed for a port, by its list or the reason that there is none
abbrev printed : ℕ → Result (List Gate) PlanFault → List ℕ
printed q r =
    elim (elim r as (λ _. Result ℕ PlanFault) [ Err e ↦ Err e | Ok es ↦ cond (leb (5 * length es) 15365) (Ok (length es)) (Err Buffer) ]) [
      | Err e ↦ refused_line e
      | Ok n ↦ list_text q n (elim r [ Err _ ↦ [] | Ok es ↦ gate_octets es ])
    ]

-- a list that was written stands at the front of the buffer
list_text-is : (q n : ℕ) (r : Result (List Gate) PlanFault) (b after : List ℕ) →
    Ok n ≡ elim r as (λ _. Result ℕ PlanFault) [ Err e ↦ Err e | Ok es ↦ cond (leb (5 * length es) 15365) (Ok (length es)) (Err Buffer) ] →
    after ≡ elim r [ Err _ ↦ b | Ok es ↦ cond (leb (5 * length es) 15365) (gate_octets es ++ drop (5 * length es) b) b ] →
    list_text q n (take (5 * n) after) ≡ printed q r
list_text-is q n (Err e) b after is wrote = let never : ◌≡◌ {A = ℕ} 0 1 = cc in absurd (omega arith)
list_text-is q n (Ok es) b after is wrote = go (leb (5 * length es) 15365) is wrote
  where
    go : (fits : Bool) → ◌≡◌ {A = Result ℕ PlanFault} (Ok n) (cond fits (Ok (length es)) (Err Buffer)) → after ≡ cond fits (gate_octets es ++ drop (5 * length es) b) b →
        list_text q n (take (5 * n) after) ≡ elim (cond fits (Ok (length es)) (Err Buffer)) as (λ _. List ℕ) [ Err e ↦ refused_line e | Ok m ↦ list_text q m (gate_octets es) ]
    go true is wrote =
        let count : n ≡ length es = cc in
        (λ i. list_text q (count i) (take (5 * count i) (wrote i)))
        ∙ ap (list_text q (length es)) (take_at (gate_octets es) (drop (5 * length es) b) (5 * length es) (length-gate_octets es))
    go false is wrote = let never : ◌≡◌ {A = ℕ} 0 1 = cc in absurd (omega arith)

-- what is printed for a port whose list was written to a buffer of 15,365 octets
pub port_text-is : (w : Wires) (m : Model) (q n : ℕ) (b after : List ℕ) → length b ≡ 15365 → Ok n ≡ gates_answer w m q (length b) → after ≡ list_written w m b q →
    list_text q n (take (5 * n) after) ≡ port_text w m q
port_text-is w m q n b after room is wrote =
    list_text-is q n (list_of w m q) b after (is ∙ ap (gates_answer w m q) room)
    (wrote ∙ ap (λ (l : ℕ). elim (list_of w m q) [ Err _ ↦ b | Ok es ↦ cond (leb (5 * length es) l) (gate_octets es ++ drop (5 * length es) b) b ]) room)

module _ (w : Wires) (m m' : Model) (alike : Alike m m') where
  -- states of a plan that no call tells apart print the same
  pub port-texts_alike : (n q : ℕ) → port_texts w m n q ≡ port_texts w m' n q
  port-texts_alike zero q = refl
  port-texts_alike (suc n) q = λ i. printed q (list_alike w m m' alike q i) ++ port-texts_alike n (suc q) i

-- the texts from port q on begin with its text
pub port-texts-next : (w : Wires) (m : Model) (n q : ℕ) → q < n → port_texts w m (n - q) q ≡ port_text w m q ++ port_texts w m (n - (q + 1)) (q + 1)
port-texts-next w m n q less =
    let left : n - q ≡ suc (n - (q + 1)) = omega arith in
    ap (λ (k : ℕ). port_texts w m k q) left ∙ ap (λ (k : ℕ). port_text w m q ++ port_texts w m (n - (q + 1)) k) (sym (add-one q))
