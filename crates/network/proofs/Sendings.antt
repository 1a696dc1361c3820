-- It is decided whether two hops, two flows or two sendings are equal.
use mathlib.Core.Path.{◌≡◌, ◌∙◌, ap, ap₂}
use mathlib.Core.List.{List-discrete}
use mathlib.Core.Logic.Dec
use Prim.Native.Nat.{ℕ}
use native.Mathlib.Decide.{ℕ_discrete, map_dec}
use native.Mathlib.Omega.{arith}
use Rattle.network.specs.Flows.{Hop, Flow}
use Rattle.network.specs.Run.{Sending, nothing, frame, best}

-- hops are equal where their fields are
pub decided_hop_same : (h i : Hop) → Dec (h ≡ i)
decided_hop_same h i =
    map_dec (λ e. λ j. record { port = e.0 j; offset = e.1.0 j; wire = e.1.1 j })
    (λ e. (ap (λ x. x.port) e, (ap (λ x. x.offset) e, ap (λ x. x.wire) e)))
    (Dec.and (ℕ_discrete h.port i.port) (Dec.and (ℕ_discrete h.offset i.offset) (ℕ_discrete h.wire i.wire)))

-- flows are equal where their fields are
pub decided_flow_same : (f g : Flow) → Dec (f ≡ g)
decided_flow_same f g =
    map_dec
    (λ e. λ j. record {
      number = e.0.0 j;
      length = e.0.1 j;
      period = e.1.0.0 j;
      deadline = e.1.0.1 j;
      start = e.1.1.0 j;
      hops = e.1.1.1 j;
    })
    (λ e. (
      (ap (λ x. x.number) e, ap (λ x. x.length) e),
      ((ap (λ x. x.period) e, ap (λ x. x.deadline) e), (ap (λ x. x.start) e, ap (λ x. x.hops) e)),
    ))
    (Dec.and (Dec.and (ℕ_discrete f.number g.number) (ℕ_discrete f.length g.length))
    (Dec.and (Dec.and (ℕ_discrete f.period g.period) (ℕ_discrete f.deadline g.deadline))
    (Dec.and (ℕ_discrete f.start g.start) (List-discrete decided_hop_same f.hops g.hops))))

-- it is decided whether a sending is a frame of flow f at hop h
pub decided_frame_of : (f : Flow) (h : Hop) (x : Sending) → Dec ((a : ℕ) × (x ≡ frame f h a))
decided_frame_of f h nothing = no (λ of. let e = of.1 in let never : ◌≡◌ {A = ℕ} 0 1 = cc in omega arith)
decided_frame_of f h (best l) = no (λ of. let e = of.1 in let never : ◌≡◌ {A = ℕ} 0 1 = cc in omega arith)
decided_frame_of f h (frame g i a) =
    map_dec (λ e. (a, ap₂ (λ x y. frame x y a) e.0 e.1)) (λ of. let e = of.1 in ((cc), (cc)))
    (Dec.and (decided_flow_same g f) (decided_hop_same i h))

-- the number of the frame that a sending is
pub frame-number : {f g : Flow} {h i : Hop} {a b : ℕ} {x : Sending} → x ≡ frame f h a → x ≡ frame g i b → a ≡ b
frame-number one other = cc

-- it is decided whether a sending is frame a of flow f at hop h
pub decided_frame : (f : Flow) (h : Hop) (a : ℕ) (x : Sending) → Dec (x ≡ frame f h a)
decided_frame f h a x = go (decided_frame_of f h x)
  where
    go : Dec ((b : ℕ) × (x ≡ frame f h b)) → Dec (x ≡ frame f h a)
    go (no other) = no (λ e. other (a, e))
    go (yes of) = map_dec (λ e. of.1 ∙ ap (frame f h) e) (λ e. frame-number of.1 e) (ℕ_discrete of.0 a)
