-- Records read in order: n records and then m more, and what a port record that was read keeps.
-- Assumes nothing.
use Rattle.std.proofs.Common.{◌≡◌, ℕ, zero, suc, ◌+◌, ◌-◌, ◌<◌, ◌≤◌, List, [], ◌∷◌, ◌++◌, Ok, Err, Result, sym, refl, ap, ◌∙◌, subst, add-zero, suc-add, zero-add, arith}
use Rattle.fault.specs.declared.kinds.RecordFault.{RecordFault}
use Rattle.sheet.specs.declared.port.PortRecord.{PortRecord}
use Rattle.sheet.specs.Ports.{port_of, port_spare, port_limits, read_port}
use Rattle.sheet.specs.Sheets.{read_at, before, read_from}
use Rattle.sheet.specs.Judged.{Inside, read_from_accepted}
use Rattle.plan.proofs.Records.{read_at_ok}

-- some records before others: the first fault decides
abbrev joined : {R : Type 0} → Result (List R) RecordFault → Result (List R) RecordFault → Result (List R) RecordFault
joined (Ok xs) (Ok ys) = Ok (xs ++ ys)
joined (Ok xs) (Err f) = Err f
joined (Err f) rest = Err f

module _ {R : Type 0} where
  joined-none : (r : Result (List R) RecordFault) → joined (Ok []) r ≡ r
  joined-none (Ok xs) = refl
  joined-none (Err f) = refl

  before-joined : (one : Result R RecordFault) (r rest : Result (List R) RecordFault) → before one (joined r rest) ≡ joined (before one r) rest
  before-joined (Ok x) (Ok xs) (Ok ys) = refl
  before-joined (Ok x) (Ok xs) (Err f) = refl
  before-joined (Ok x) (Err f) rest = refl
  before-joined (Err f) r rest = refl

  read_from-add : (at : ℕ → Result R RecordFault) (n m k : ℕ) → read_from at (n + m) k ≡ joined (read_from at n k) (read_from at m (k + n))
  read_from-add at zero m k =
      ap (λ (i : ℕ). read_from at i k) (zero-add m)
      ∙ sym (joined-none (read_from at m k))
      ∙ ap (λ (i : ℕ). joined (Ok []) (read_from at m i)) (sym (add-zero k))
  read_from-add at (suc n) m k =
      let further : suc k + n ≡ k + suc n = omega arith in
      ap (λ (i : ℕ). read_from at i k) (suc-add n m)
      ∙ ap (before (at k)) (read_from-add at n m (suc k))
      ∙ before-joined (at k) (read_from at n (suc k)) (read_from at m (suc k + n))
      ∙ ap (λ (i : ℕ). joined (read_from at (suc n) k) (read_from at m i)) further

  -- one record more
  pub read_from_more : (at : ℕ → Result R RecordFault) (n : ℕ) (xs : List R) (x : R) → read_from at n 0 ≡ Ok xs → at n ≡ Ok x → read_from at (n + 1) 0 ≡ Ok (xs ++ x ∷ [])
  read_from_more at n xs x so_far here =
      let from : at (0 + n) ≡ Ok x = subst (λ (i : ℕ). at i ≡ Ok x) (sym (zero-add n)) here in
      read_from-add at n 1 0
      ∙ ap (λ (r : Result (List R) RecordFault). joined r (before (at (0 + n)) (Ok []))) so_far
      ∙ ap (λ (r : Result R RecordFault). joined (Ok xs) (before r (Ok []))) from

  -- a fault after records without one
  pub read_from_fault : (at : ℕ → Result R RecordFault) (k n : ℕ) (xs : List R) (f : RecordFault) → k < n → read_from at k 0 ≡ Ok xs → at k ≡ Err f → read_from at n 0 ≡ Err f
  read_from_fault at k n xs f below so_far here =
      let m : ℕ = n - suc k in
      let split : n ≡ k + suc m = omega arith in
      let from : at (0 + k) ≡ Err f = subst (λ (i : ℕ). at i ≡ Err f) (sym (zero-add k)) here in
      ap (λ (i : ℕ). read_from at i 0) split
      ∙ read_from-add at k (suc m) 0
      ∙ ap (λ (r : Result (List R) RecordFault). joined r (read_from at (suc m) (0 + k))) so_far
      ∙ ap (λ (r : Result R RecordFault). joined (Ok xs) (before r (read_from at m (suc (0 + k))))) from

-- the delays of a port record that was read are within their limits
port-delays : (k : ℕ) (s : List ℕ) (x : PortRecord) → read_port k s ≡ Ok x → (x.delay ≤ 100000) × (x.processing ≤ 1000000)
port-delays k s x e =
    let was = read_from_accepted 8 k s (port_spare s) (port_limits (port_of s)) e in
    let inside = subst (λ (y : PortRecord). Inside (port_limits y)) was.same was.clean.limits_inside in
    (omega arith, omega arith)

pub delays_read : (k : ℕ) (s : List ℕ) (x : PortRecord) → read_at 8 read_port k s ≡ Ok x → (x.delay ≤ 100000) × (x.processing ≤ 1000000)
delays_read = read_at_ok (λ x. (x.delay ≤ 100000) × (x.processing ≤ 1000000)) 8 read_port port-delays
