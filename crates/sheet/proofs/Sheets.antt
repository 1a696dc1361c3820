-- Where a record lies in a sheet.
use Rattle.std.proofs.Common.{◌≡◌, ℕ, ◌+◌, ◌*◌, ◌≤◌, leb, List, length, take, drop, Ok}
use Rattle.std.proofs.lemmas.Bool.{le-leb, cond-true}
use Rattle.sheet.specs.Sheets.{octets_at}

pub octets_at_inside : (z k : ℕ) (s : List ℕ) → k * z + z ≤ length s → octets_at z k s ≡ Ok (take z (drop (k * z) s))
octets_at_inside z k s h = cond-true (leb (k * z + z) (length s)) _ _ (le-leb (k * z + z) (length s) h)
