-- Calls in octets: the call at the front of a list of octets, and lists of calls back to back.
-- Assumes nothing.
use Rattle.std.specs.Prelude.{◌≡◌, ◌≢◌, ℕ, zero, suc, cond, List, [], ◌∷◌, length, take, drop, Some, None, Ok, Err, Option, Result, ◌==◌, nat_le}
use Rattle.std.specs.Borrow.{Bor}
use Rattle.sheet.specs.Fields.{number}
use Rattle.plan.specs.declared.call.Call.{Call}
use Rattle.plan.specs.declared.call.Call.TheVariants.{SetUp, Offer, Withdraw, StartOf, Flowspan, GateList}
use Rattle.interface.specs.declared.unperformed.Unperformed.{Unperformed}
use Rattle.interface.specs.declared.unperformed.Unperformed.TheVariants.{Calls}

-- a call with the octets of its sheet
pub data Spoken : Type 0 where
  set_up : ℕ → List ℕ → Spoken
  offer : ℕ → List ℕ → Spoken
  withdrawal : ℕ → Spoken
  start_of : ℕ → Spoken
  flowspan : Spoken
  gate_list : ℕ → Spoken

-- what a call of a plan says, wherever its sheet lies
abbrev pub spoken : Call → Spoken
spoken (SetUp C sheet) = set_up C sheet.now
spoken (Offer sheet k) = offer k sheet.now
spoken (Withdraw n) = withdrawal n
spoken (StartOf n) = start_of n
spoken Flowspan = flowspan
spoken (GateList q) = gate_list q

-- a sheet that holds these octets; no answer depends on where it lies
abbrev pub sheet : List ℕ → Bor (List ℕ)
sheet s = record { ref_ptr = (0, 0); now = s }

-- a call of a plan that says this
abbrev pub call : Spoken → Call
call (set_up C s) = SetUp C (sheet s)
call (offer k s) = Offer (sheet s) k
call (withdrawal n) = Withdraw n
call (start_of n) = StartOf n
call flowspan = Flowspan
call (gate_list q) = GateList q

-- something read from the front of a list of octets, and the octets behind it; none where the list is cut short
abbrev pub Front : Type 0 → Type 0
Front A = Option (A × List ℕ)

-- what code reads, with the octets that the reference behind it holds
abbrev pub got : {A : Type 0} → Option (A × Bor (List ℕ)) → Front A
got None = None
got (Some (x, rest)) = Some (x, rest.now)

-- what is read is turned into something else
abbrev pub turned : {A B : Type 0} → (A → B) → Front A → Front B
turned f None = None
turned f (Some (x, rest)) = Some (f x, rest)

-- one thing and then another are read
abbrev pub and_then : {A B : Type 0} → Front A → (A → List ℕ → Front B) → Front B
and_then None next = None
and_then (Some (x, rest)) next = next x rest

-- the first n octets
abbrev pub octets_of : ℕ → List ℕ → Front (List ℕ)
octets_of n s = cond (nat_le n (length s)) (Some (take n s, drop n s)) None

-- a number of n octets, most significant octet first
abbrev pub number_of : ℕ → List ℕ → Front ℕ
number_of n s = turned number (octets_of n s)

-- a sheet: its length in 2 octets, and its octets
abbrev pub sheet_of : List ℕ → Front (List ℕ)
sheet_of s = and_then (number_of 2 s) octets_of

-- a call, after the octet that says its kind
abbrev pub call_of : ℕ → List ℕ → Front Spoken
call_of kind s =
    cond (kind == 1) (and_then (number_of 4 s) (λ C rest. turned (set_up C) (sheet_of rest)))
    (cond (kind == 2) (and_then (number_of 8 s) (λ k rest. turned (offer k) (sheet_of rest)))
    (cond (kind == 3) (turned withdrawal (number_of 2 s))
    (cond (kind == 4) (turned start_of (number_of 2 s))
    (cond (kind == 5) (Some (flowspan, s))
    (cond (kind == 6) (turned gate_list (number_of 1 s))
    None)))))

-- the call at the front
abbrev pub first_call : List ℕ → Front Spoken
first_call [] = None
first_call (kind ∷ s) = call_of kind s

-- the next call of a list of octets, and the octets behind it; nothing at the end, and a refusal once where there is no call
abbrev pub ReadsNext : List ℕ → Option (Result Call Unperformed) → List ℕ → Type 0
ReadsNext s None rest = (s ≡ []) × (rest ≡ [])
ReadsNext s (Some (Ok c)) rest = Some (spoken c, rest) ≡ first_call s
ReadsNext s (Some (Err e)) rest = (e ≡ Calls) × (s ≢ []) × (None ≡ first_call s) × (rest ≡ [])

-- a call before others
abbrev pub before : Spoken → Option (List Spoken) → Option (List Spoken)
before c None = None
before c (Some cs) = Some (c ∷ cs)

-- at most n calls back to back, with nothing behind the last
abbrev pub calls_within : ℕ → List ℕ → Option (List Spoken)
calls_within n [] = Some []
calls_within zero (x ∷ s) = None
calls_within (suc n) (x ∷ s) = elim (call_of x s) [ None ↦ None | Some (c, rest) ↦ before c (calls_within n rest) ]

-- the list of calls that octets are, if they are one; every call has an octet or more
abbrev pub calls_of : List ℕ → Option (List Spoken)
calls_of s = calls_within (length s) s

-- how many calls there are
abbrev pub counted : Option (List Spoken) → Option ℕ
counted None = None
counted (Some cs) = Some (length cs)
