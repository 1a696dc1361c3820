-- The parts of an input, and its calls one by one.
-- Assumes nothing.
use Rattle.std.proofs.Common.{◌≡◌, ℕ, zero, suc, ◌+◌, ◌-◌, ◌*◌, ◌/◌, ◌%◌, ◌≤◌, min, List, [], ◌∷◌, ◌++◌, length, get_or, take, drop, map, refl, ap, ◌∙◌, add-one, arith, Bor}
use Rattle.std.proofs.lemmas.List.{drop-drop, length-drop, get_or-take}
use Rattle.std.specs.List.{range_with_len}
use Rattle.plan.specs.declared.call.Call.{Call}
use Rattle.plan.specs.declared.call.Call.TheVariants.{SetUp, Offer, Flowspan}
use Rattle.report.specs.Inputs.{cycle, count, head, rate_codes, port_sheet, flow_sheet, records, offers, calls}

-- the cycle from the first four of its octets
pub cycle-is : (s : List ℕ) → 4 ≤ length s → get_or s 0 0 * 16777216 + get_or s 1 0 * 65536 + get_or s 2 0 * 256 + get_or s 3 0 ≡ cycle s
cycle-is [] long = absurd (omega arith)
cycle-is (a ∷ []) long = absurd (omega arith)
cycle-is (a ∷ b ∷ []) long = absurd (omega arith)
cycle-is (a ∷ b ∷ c ∷ []) long = absurd (omega arith)
cycle-is (a ∷ b ∷ c ∷ d ∷ s) long = omega arith

-- the same where its first five are taken apart
pub cycle_taken : (s : List ℕ) → 5 ≤ length s →
    get_or (take 5 s) 0 0 * 16777216 + get_or (take 5 s) 1 0 * 65536 + get_or (take 5 s) 2 0 * 256 + get_or (take 5 s) 3 0 ≡ cycle s
cycle_taken s long =
    let a = get_or-take 5 s 0 0 (omega arith) in
    let b = get_or-take 5 s 1 0 (omega arith) in
    let c = get_or-take 5 s 2 0 (omega arith) in
    let d = get_or-take 5 s 3 0 (omega arith) in
    (λ i. a i * 16777216 + b i * 65536 + c i * 256 + d i) ∙ cycle-is s (omega arith)

-- an input that is split behind its five first octets and behind its rate codes
module _ (s begin rest : List ℕ) (begin-is : begin ≡ take 5 s) (rest-is : rest ≡ drop 5 s) where
  counted : get_or begin 4 0 ≡ count s
  counted = ap (λ (t : List ℕ). get_or t 4 0) begin-is ∙ get_or-take 5 s 4 0 (omega arith)

  -- its rate codes
  pub codes-are : take (get_or begin 4 0) rest ≡ rate_codes s
  codes-are = λ i. take (counted i) (rest-is i)

  -- its port records
  pub ports_are : take (8 * get_or begin 4 0) (drop (get_or begin 4 0) rest) ≡ port_sheet s
  ports_are = (λ i. take (8 * counted i) (drop (counted i) (rest-is i))) ∙ ap (take (8 * count s)) (drop-drop (count s) 5 s)

  -- its flow records
  pub flows_are : drop (8 * get_or begin 4 0) (drop (get_or begin 4 0) rest) ≡ flow_sheet s
  flows_are =
      let all : 5 + count s + 8 * count s ≡ head s = omega arith in
      (λ i. drop (8 * counted i) (drop (counted i) (rest-is i))) ∙ ap (drop (8 * count s)) (drop-drop (count s) 5 s) ∙ drop-drop (8 * count s) (5 + count s) s ∙ ap (λ (n : ℕ). drop n s) all

  -- it is long enough
  pub head-le : 5 ≤ length s → get_or begin 4 0 ≤ length rest → 8 * get_or begin 4 0 ≤ length (drop (get_or begin 4 0) rest) → head s ≤ length s
  head-le some codes ports =
      let same = counted in
      let left : length rest ≡ length s - 5 = ap length rest-is ∙ length-drop 5 s in
      let less = length-drop (get_or begin 4 0) rest in
      omega arith

-- the number of records, as whole ones and what is left
pub records_are : (s : List ℕ) (n : ℕ) → n ≡ length s / 21 + min 1 (length s % 21) → n ≡ records s
records_are s n is = is ∙ (omega arith)

-- the offers of n records, as a list made from their indices
pub map-offer : (sheet : Bor (List ℕ)) (n k : ℕ) → map (Offer sheet) (range_with_len k n) ≡ offers sheet n k
map-offer sheet zero k = refl
map-offer sheet (suc n) k = ap (λ (cs : List Call). Offer sheet k ∷ cs) (map-offer sheet n (k + 1) ∙ ap (offers sheet n) (add-one k))

-- the calls, put together piece by piece
pub calls_are : (C : ℕ) (ports flows : Bor (List ℕ)) (n : ℕ) (none begun offered all : List Call) → none ≡ [] → begun ≡ none ++ (SetUp C ports ∷ []) →
    offered ≡ begun ++ map (Offer flows) (range_with_len 0 n) → all ≡ offered ++ (Flowspan ∷ []) → n ≡ records flows.now → all ≡ calls C ports flows
calls_are C ports flows n none begun offered all empty first middle last count =
    last
    ∙ ap (λ (cs : List Call). cs ++ (Flowspan ∷ [])) (middle ∙ (λ i. (first ∙ ap (λ (cs : List Call). cs ++ (SetUp C ports ∷ [])) empty) i ++ (map-offer flows n 0 ∙ ap (λ (m : ℕ). offers flows m 0) count) i))
