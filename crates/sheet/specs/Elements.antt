-- A list of a known length, element by element.
use Rattle.std.specs.Prelude.{◌≡◌, ℕ, List, map, length, slice_index, refl}
use Rattle.std.specs.List.{range_with_len}
use Rattle.std.proofs.lemmas.List.FromFn.{fill_by_all}

pub listed : (n : ℕ) (s : List ℕ) → length s ≡ n → s ≡ map (slice_index s) (range_with_len 0 n)
listed n s l = fill_by_all (slice_index s) s n 0 l (λ _ _. refl)
