-- Calls written as octets, and that reading them is the same the other way round.
-- Assumes nothing.
use Rattle.std.specs.Prelude.{◌≡◌, ℕ, ◌^◌, ◌<◌, List, [], ◌∷◌, ◌++◌, length, Some}
use Rattle.sheet.specs.Fields.{Octets, octets}
use Rattle.interface.specs.Spoken.{Spoken, set_up, offer, withdrawal, start_of, flowspan, gate_list, calls_of}

-- the octets of a sheet: its length, and its own octets
abbrev pub sheet_octets : List ℕ → List ℕ
sheet_octets s = octets 2 (length s) ++ s

-- the octets of a call: its kind, and what follows
abbrev pub call_octets : Spoken → List ℕ
call_octets (set_up C s) = 1 ∷ (octets 4 C ++ sheet_octets s)
call_octets (offer k s) = 2 ∷ (octets 8 k ++ sheet_octets s)
call_octets (withdrawal n) = 3 ∷ octets 2 n
call_octets (start_of n) = 4 ∷ octets 2 n
call_octets flowspan = 5 ∷ []
call_octets (gate_list q) = 6 ∷ octets 1 q

-- the octets of calls back to back
abbrev pub calls_octets : List Spoken → List ℕ
calls_octets [] = []
calls_octets (c ∷ cs) = call_octets c ++ calls_octets cs

-- the numbers of a call and the length of its sheet fit their octets
abbrev pub Fits : Spoken → Type 0
Fits (set_up C s) = (C < 2 ^ 32) × (length s < 2 ^ 16)
Fits (offer k s) = (k < 2 ^ 64) × (length s < 2 ^ 16)
Fits (withdrawal n) = n < 2 ^ 16
Fits (start_of n) = n < 2 ^ 16
Fits flowspan = Unit {0}
Fits (gate_list q) = q < 2 ^ 8

-- all of them do
abbrev pub AllFit : List Spoken → Type 0
AllFit [] = Unit {0}
AllFit (c ∷ cs) = Fits c × AllFit cs

-- calls that are written are read back
abbrev pub ReadBack : Type 0
ReadBack = (cs : List Spoken) → AllFit cs → calls_of (calls_octets cs) ≡ Some cs

-- octets that are read as calls are the octets of those calls
abbrev pub ReadOnly : Type 0
ReadOnly = (s : List ℕ) (cs : List Spoken) → Octets s → calls_of s ≡ Some cs → s ≡ calls_octets cs
