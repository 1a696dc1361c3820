-- What each name of a kind is read as.
-- Assumes nothing.
use Rattle.std.specs.Prelude.{◌≡◌, ◌≢◌, ℕ, List, Ok, Err, Result, codes}
use Rattle.records.specs.declared.kind.Kind.{Kind}
use Rattle.records.specs.declared.kind.Kind.TheVariants.{Port, Flow, Gate}
use Rattle.records.specs.declared.kind.UnknownKind.{UnknownKind}

-- three names have a kind, and no other text has one
pub record Named (name : List ℕ) (result : Result Kind UnknownKind) : Type 0 where
  pub port : name ≡ codes "port" → result ≡ Ok Port
  pub flow : name ≡ codes "flow" → result ≡ Ok Flow
  pub gate : name ≡ codes "gate" → result ≡ Ok Gate
  pub other : (name ≢ codes "port") → (name ≢ codes "flow") → (name ≢ codes "gate") → result ≡ Err (record {})
