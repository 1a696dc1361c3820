-- The hops that a route makes, and what a route and its wire times keep where no refusal names a hop.
-- Assumes nothing.
use Rattle.std.proofs.Common.{◌≡◌, ℕ, zero, suc, ◌+◌, ◌<◌, ◌≤◌, Bool, true, false, cond, ◌||◌, eqb, ltb, leb, List, [], ◌∷◌, length, Some, None, Option, sym, refl, ap, arith}
use Rattle.std.proofs.lemmas.Bool.{leb-false, ltb-false, or_parts}
use Rattle.std.proofs.lemmas.Bool.Decides.{Decides-eqb, not_from_Decides}
use Rattle.network.specs.Flows.{At, here, next, Hop, Network, step}
use Rattle.network.proofs.Lists.{At-empty, Found}
use Rattle.planning.specs.Lists.{any}
use Rattle.planning.specs.Offers.{hops, misrouted, overlong}
use Rattle.planning.proofs.Lists.{decides-any}
use Rattle.planning.proofs.Once.{Each, Once, each_more, once_more}

-- what a refusal at one place leaves where there is none
pub elim-none : {A B : Type 0} (o : Option A) (f : A → B) (rest : Option B) →
    ◌≡◌ {A = Option B} (elim o [ Some k ↦ Some (f k) | None ↦ rest ]) None → (o ≡ None) × (rest ≡ None)
elim-none (Some k) f rest e = let z : ◌≡◌ {A = ℕ} 0 1 = cc in absurd (omega arith)
elim-none None f rest e = (refl, e)

test-none : {A : Type 0} (b : Bool) (x : A) (rest : Option A) → ◌≡◌ {A = Option A} (elim b [ true ↦ Some x | false ↦ rest ]) None → (b ≡ false) × (rest ≡ None)
test-none true x rest e = let z : ◌≡◌ {A = ℕ} 0 1 = cc in absurd (omega arith)
test-none false x rest e = (refl, e)

pub cond-none : {A : Type 0} (b : Bool) (x : A) (rest : Option A) → cond b (Some x) rest ≡ None → (b ≡ false) × (rest ≡ None)
cond-none true x rest e = let z : ◌≡◌ {A = ℕ} 0 1 = cc in absurd (omega arith)
cond-none false x rest e = (refl, e)

-- the ports of a route are below N, stand once, and none of them stands earlier
pub record Routed (N : ℕ) (earlier qs : List ℕ) : Type 0 where
  pub below : Each (λ q. q < N) qs
  pub once : Once ◌≡◌ qs
  pub fresh : (i j q r : ℕ) → At earlier i q → At qs j r → ¬ (q ≡ r)

-- one more port before them
routed_more : {N q : ℕ} {earlier qs : List ℕ} → q < N → ¬ Found (λ r. r ≡ q) earlier → Routed N (q ∷ earlier) qs → Routed N earlier (q ∷ qs)
routed_more {N} {q} {earlier} {qs} low new rest = record {
  below = each_more (λ r. r < N) low rest.below;
  once = once_more ◌≡◌ (λ r r'. sym) (λ j r at. rest.fresh 0 j q r here at) rest.once;
  fresh = fresh;
}
  where
    fresh : (i j r r' : ℕ) → At earlier i r → At (q ∷ qs) j r' → ¬ (r ≡ r')
    fresh i zero r r' at here e = new (record { n = i; x = r; at = at; holds = e })
    fresh i (suc j) r r' at (next at') e = rest.fresh (suc i) j r r' (next at) at' e

pub misrouted-none : (N : ℕ) (earlier : List ℕ) (k : ℕ) (qs : List ℕ) → misrouted N earlier k qs ≡ None → Routed N earlier qs
misrouted-none N earlier k [] e = record {
  below = λ n q at. absurd (At-empty at);
  once = λ i j q r at. absurd (At-empty at);
  fresh = λ i j q r at at'. absurd (At-empty at');
}
misrouted-none N earlier k (q ∷ qs) e =
    let stands = any (λ r. eqb r q) earlier in
    let (passes, rest) = test-none (leb N q || stands) _ _ e in
    let (low, new) = or_parts (leb N q) stands passes in
    routed_more (leb-false N q low)
    (not_from_Decides stands (decides-any (λ r. eqb r q) (λ r. r ≡ q) earlier (λ n r at. Decides-eqb r q)) new)
    (misrouted-none N (q ∷ earlier) (suc k) qs rest)

-- no wire time exceeds the period
pub overlong-none : (T k : ℕ) (hs : List Hop) → overlong T k hs ≡ None → (n : ℕ) (h : Hop) → At hs n h → h.wire ≤ T
overlong-none T k [] e n h at = absurd (At-empty at)
overlong-none T k (g ∷ hs) e zero h here = ltb-false T g.wire (test-none (ltb T g.wire) _ _ e).0
overlong-none T k (g ∷ hs) e (suc n) h (next at) = overlong-none T (suc k) hs (test-none (ltb T g.wire) _ _ e).1 n h at

module _ (net : Network) (l : ℕ) where
  pub hops-length : (qs : List ℕ) (o : ℕ) → length (hops net l o qs) ≡ length qs
  hops-length [] o = refl
  hops-length (q ∷ qs) o = ap suc (hops-length qs _)

  -- a hop of the route is on the route's port at its index, with the wire time of the length there
  pub hops-port : (qs : List ℕ) (n o : ℕ) {h : Hop} → At (hops net l o qs) n h → At qs n h.port
  hops-port [] n o at = absurd (At-empty at)
  hops-port (q ∷ qs) zero o here = here
  hops-port (q ∷ qs) (suc n) o (next at) = next (hops-port qs n _ at)

  pub hops-wire : (qs : List ℕ) (n o : ℕ) {h : Hop} → At (hops net l o qs) n h → h.wire ≡ net.time h.port l
  hops-wire [] n o at = absurd (At-empty at)
  hops-wire (q ∷ qs) zero o here = refl
  hops-wire (q ∷ qs) (suc n) o (next at) = hops-wire qs n _ at

  -- the first offset is the one given, and each later one is one step after the one before
  pub hops-first : (qs : List ℕ) (o : ℕ) {h : Hop} → At (hops net l o qs) 0 h → h.offset ≡ o
  hops-first [] o at = absurd (At-empty at)
  hops-first (q ∷ qs) o here = refl

  pub hops-step : (qs : List ℕ) (k o : ℕ) {h i : Hop} → At (hops net l o qs) k h → At (hops net l o qs) (suc k) i → i.offset ≡ h.offset + step net h
  hops-step [] k o at at' = absurd (At-empty at)
  hops-step (q ∷ qs) zero o here (next at) = hops-first qs _ at
  hops-step (q ∷ qs) (suc k) o (next at) (next at') = hops-step qs k _ at at'
