-- The hops of the flows on one port: what holds of some of them, and what holds of each.
-- Assumes nothing.
use Rattle.std.proofs.Common.{◌≡◌, ℕ, Bool, ◌&&◌, T, eqb, List, eqb→eq}
use Rattle.network.specs.Flows.{At, Hop, Flow}
use Rattle.planning.specs.Lists.{any}
use Rattle.planning.specs.Gates.{on_port}
use Rattle.planning.proofs.Tests.{eqb-eq, and-only, and-all, any-only, any-all}

-- some hop of a flow on port q has P
pub record SomeOn (flows : List Flow) (q : ℕ) (P : Flow → Hop → Type 0) : Type 0 where
  pub j : ℕ
  pub k : ℕ
  pub f : Flow
  pub h : Hop
  pub flow : At flows j f
  pub hop : At f.hops k h
  pub port : h.port ≡ q
  pub holds : P f h

-- each hop of a flow on port q has P
abbrev pub EachOn : List Flow → ℕ → (Flow → Hop → Type 0) → Type 0
EachOn flows q P = (j k : ℕ) (f : Flow) (h : Hop) → At flows j f → At f.hops k h → h.port ≡ q → P f h

-- a test on port q passes exactly when some hop there passes it
pub on-port-only : (p : Flow → Hop → Bool) (q : ℕ) (flows : List Flow) → T (on_port p q flows) → SomeOn flows q (λ f h. T (p f h))
on-port-only p q flows pass =
    let flow = any-only (λ f. any (λ h. eqb h.port q && p f h) f.hops) flows pass in
    let hop = any-only (λ h. eqb h.port q && p flow.x h) flow.x.hops flow.holds in
    let (port, holds) = and-only (eqb hop.x.port q) (p flow.x hop.x) hop.holds in
    record {
      j = flow.n;
      k = hop.n;
      f = flow.x;
      h = hop.x;
      flow = flow.at;
      hop = hop.at;
      port = eqb→eq hop.x.port q port;
      holds = holds;
    }

pub on-port-all : (p : Flow → Hop → Bool) (q : ℕ) (flows : List Flow) → SomeOn flows q (λ f h. T (p f h)) → T (on_port p q flows)
on-port-all p q flows some =
    let f = some.f in
    let h = some.h in
    let port = eqb-eq h.port q some.port in
    any-all (λ f. any (λ h. eqb h.port q && p f h) f.hops) some.flow
    (any-all (λ h. eqb h.port q && p f h) some.hop (and-all (eqb h.port q) (p f h) port some.holds))

-- what each hop on the port has, a hop there has
pub at_some : {flows : List Flow} {q : ℕ} {P Q : Flow → Hop → Type 0} → EachOn flows q Q → (some : SomeOn flows q P) → Q some.f some.h
at_some each some = each some.j some.k some.f some.h some.flow some.hop some.port

-- where P gives Q at each hop on the port, some hop with P gives one with Q
pub some-on-map : {flows : List Flow} {q : ℕ} {P Q : Flow → Hop → Type 0} → EachOn flows q (λ f h. P f h → Q f h) → SomeOn flows q P → SomeOn flows q Q
some-on-map gives some =
    record {
      j = some.j;
      k = some.k;
      f = some.f;
      h = some.h;
      flow = some.flow;
      hop = some.hop;
      port = some.port;
      holds = at_some gives some some.holds;
    }
