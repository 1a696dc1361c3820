-- The input of a listing: C in 4 octets, n in one, n rate codes of one octet, n port records of 8 octets, then flow records of 21.
-- Assumes nothing.
use Rattle.std.specs.Prelude.{ℕ, zero, suc, ◌+◌, ◌*◌, ◌/◌, List, [], ◌∷◌, ◌++◌, length, take, drop, slice_index}
use Rattle.std.specs.Borrow.{Bor}
use Rattle.sheet.specs.Fields.{number}
use Rattle.plan.specs.declared.call.Call.{Call}
use Rattle.plan.specs.declared.call.Call.TheVariants.{SetUp, Offer, Flowspan}

-- the cycle C, most significant octet first
abbrev pub cycle : List ℕ → ℕ
cycle s = number (take 4 s)

-- the number of ports n; 0 where it is missing
abbrev pub count : List ℕ → ℕ
count s = slice_index s 4

-- how many octets stand before the flow records
abbrev pub head : List ℕ → ℕ
head s = 5 + 9 * count s

-- the rate codes of the ports
abbrev pub rate_codes : List ℕ → List ℕ
rate_codes s = take (count s) (drop 5 s)

-- the sheet of port records
abbrev pub port_sheet : List ℕ → List ℕ
port_sheet s = take (8 * count s) (drop (5 + count s) s)

-- the sheet of flow records, the last of them perhaps unfinished
abbrev pub flow_sheet : List ℕ → List ℕ
flow_sheet s = drop (head s) s

-- how many flow records a sheet has, an unfinished last one counted
abbrev pub records : List ℕ → ℕ
records s = (length s + 20) / 21

-- offers of n records of a sheet, from record k on
abbrev pub offers : Bor (List ℕ) → ℕ → ℕ → List Call
offers sheet zero k = []
offers sheet (suc n) k = Offer sheet k ∷ offers sheet n (suc k)

-- the calls for a cycle, a sheet of port records and one of flow records: the set-up, an offer for each flow record, and the question for the flowspan
abbrev pub calls : ℕ → Bor (List ℕ) → Bor (List ℕ) → List Call
calls C ports flows = SetUp C ports ∷ (offers flows (records flows.now) 0 ++ (Flowspan ∷ []))
