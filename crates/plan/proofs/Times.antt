-- The times of a route, hop by hop.
-- Assumes nothing.
use Rattle.std.proofs.Common.{◌≡◌, ℕ, ◌+◌, ◌*◌, ◌<◌, ◌≤◌, List, [], ◌∷◌, ◌++◌, map, length, get_or, take, drop, set, sym, refl, ap, ◌∙◌, subst, arith, below_more}
use Rattle.std.proofs.lemmas.List.{append_assoc, append-nil, length-set, take_more_set, drop_all, at_drop_more, map_push, get_or-set_same, get_or-set_other}
use Rattle.line.specs.Meaning.{Meaning}
use Rattle.network.specs.Flows as flows
use Rattle.network.specs.Flows.{Network, arrival, total}
use Rattle.planning.specs.Offers.{Offered, hops}
use Rattle.planning.specs.Setups as planning
use Rattle.plan.specs.declared.row.Hop.{Hop}
use Rattle.plan.specs.declared.setup.Port.{Port}
use Rattle.plan.specs.declared.setup.Setup.{Setup}
use Rattle.plan.specs.Rows.{hop, blank}
use Rattle.plan.specs.Ports.{port}
use Rattle.plan.specs.Setups.{setup}
use Rattle.plan.specs.Timings.{network, Times}

-- the total time is that of the last hop
total_push : (net : Network) (hs : List flows.Hop) (h : flows.Hop) → total net (hs ++ h ∷ []) ≡ h.offset + arrival net h
total_push net [] h = refl
total_push net (i ∷ []) h = refl
total_push net (i ∷ j ∷ hs) h = total_push net (j ∷ hs) h

-- the first k hops are timed: with those left, from offset o on, they come to the whole route
pub record SoFar (net : Network) (x : Offered) (k : ℕ) (hs : List Hop) (o time : ℕ) : Type 0 where
  pub long : length hs ≡ 8
  pub left : map hop (take k hs) ++ hops net x.length o (drop k x.route) ≡ hops net x.length 0 x.route
  pub total : time ≡ total net (map hop (take k hs))
  pub offset-most : o ≤ k * 11100000
  pub total_most : time ≤ k * 11100000
  pub offsets : (j : ℕ) → j < k → (get_or hs j blank).offset ≤ 100000000
  pub wires : (j : ℕ) → j < k → (get_or hs j blank).wire ≡ net.time (get_or x.route j 0) x.length

-- one hop more
pub so_far_more : (m : Meaning) (c : Setup) (x : Offered) (k : ℕ) (hs : List Hop) (o time w : ℕ) (figures : Port) → length x.route ≤ 8 → k < length x.route →
    port figures ≡ get_or (setup c).ports (get_or x.route k 0) planning.blank → figures.delay ≤ 100000 → figures.processing ≤ 1000000 →
    w ≡ m.time (get_or x.route k 0) x.length → w ≤ 10000000 → SoFar (network m c) x k hs o time →
    SoFar (network m c) x (k + 1) (set hs k (record { port = get_or x.route k 0; offset = o; wire = w })) (o + w + figures.delay + figures.processing) (o + w + figures.delay)
so_far_more m c x k hs o time w figures few within is near quick wire short far =
    record {
      long = length-set hs k h ∙ far.long;
      left = ap (λ (is : List flows.Hop). is ++ hops net l (o + w + d + p) rest) front
          ∙ append_assoc (map hop (take k hs)) (hop h ∷ []) _
          ∙ ap (λ (is : List flows.Hop). map hop (take k hs) ++ is) (sym next)
          ∙ far.left;
      total = sym (ap (total net) front ∙ total_push net (map hop (take k hs)) (hop h) ∙ arrives);
      offset-most = omega arith;
      total_most = omega arith;
      offsets = below_more _ _
          (λ j lt. subst (λ (y : Hop). y.offset ≤ 100000000) (sym (get_or-set_other hs k j h blank (omega arith))) (far.offsets j lt))
          (subst (λ (y : Hop). y.offset ≤ 100000000) (sym (get_or-set_same hs k h blank room)) (omega arith));
      wires = below_more _ _
          (λ j lt. subst (λ (y : Hop). y.wire ≡ m.time (get_or route j 0) l) (sym (get_or-set_other hs k j h blank (omega arith))) (far.wires j lt))
          (subst (λ (y : Hop). y.wire ≡ m.time q l) (sym (get_or-set_same hs k h blank room)) wire);
    }
  where
    net : Network
    net = network m c

    l : ℕ
    l = x.length

    route : List ℕ
    route = x.route

    q : ℕ
    q = get_or route k 0

    d : ℕ
    d = figures.delay

    p : ℕ
    p = figures.processing

    rest : List ℕ
    rest = drop (k + 1) route

    h : Hop
    h = record { port = q; offset = o; wire = w }

    room : k < length hs
    room = let long = far.long in omega arith

    is_d : net.delay q ≡ d
    is_d = ap (λ (y : planning.Port). y.delay) (sym is)

    is_p : net.processing q ≡ p
    is_p = ap (λ (y : planning.Port). y.processing) (sym is)

    arrives : o + (w + net.delay q) ≡ o + w + d
    arrives = omega (arith, is_d)

    steps : o + (w + net.delay q + net.processing q) ≡ o + w + d + p
    steps = omega (arith, is_d, is_p)

    front : map hop (take (k + 1) (set hs k h)) ≡ map hop (take k hs) ++ hop h ∷ []
    front = ap (map hop) (take_more_set hs k h room) ∙ map_push hop (take k hs) h

    next : hops net l o (drop k route) ≡ hop h ∷ hops net l (o + w + d + p) rest
    next = at_drop_more (hops net l o) route k 0 within
        ∙ ap (λ (v : ℕ). record { port = q; offset = o; wire = v } ∷ hops net l (o + (v + net.delay q + net.processing q)) rest) (sym wire)
        ∙ ap (λ (y : ℕ). hop h ∷ hops net l y rest) steps

-- all of them
pub so_far-all : (most : ℕ) (net : Network) (x : Offered) (k : ℕ) (hs : List Hop) (o time : ℕ) → length x.route ≤ 8 → k ≡ length x.route →
    ((q : ℕ) → q < net.ports → 64 ≤ x.length → x.length ≤ most → 1 ≤ net.time q x.length) → SoFar net x k hs o time → Times most net x (record { hops = hs; total = time })
so_far-all most net x k hs o time few all timed far = done (subst (λ (n : ℕ). SoFar net x n hs o time) all far)
  where
    done : SoFar net x (length x.route) hs o time → Times most net x (record { hops = hs; total = time })
    done far =
        let late = far.total_most in
        record {
          long = far.long;
          hops = sym (append-nil (map hop (take (length x.route) hs)))
              ∙ ap (λ (qs : List ℕ). map hop (take (length x.route) hs) ++ hops net x.length o qs) (sym (drop_all (length x.route) x.route (omega arith)))
              ∙ far.left;
          total = far.total;
          total_most = omega arith;
          offsets = far.offsets;
          wires = λ least greatest k within below. subst (λ (w : ℕ). 1 ≤ w) (sym (far.wires k within)) (timed (get_or x.route k 0) below least greatest);
        }
