-- Covered, in the guard band, or before it.
use Rattle.std.proofs.Common.{◌≡◌, ℕ, ◌-◌, min, sym, ap, ◌∙◌, rules, arith}
use Rattle.sheet.specs.Gates.{octet_of}
use Rattle.sheet.specs.declared.gate.GateState.{GateState}
use Rattle.plan.proofs.Staying.{left-lasts, next-some, next-lasts, rest-lasts}
use Rattle.plan.proofs.gates.PortGates.state_at.Goals as goal
use Rattle.plan.proofs.gates.PortGates.state_at.Goals.{then-seen-gt0, else-seen-gt0+then-seen-self, else-seen-gt0+else-seen-self}

pub returns-clause-some : goal.returns-clause-some
returns-clause-some c =
    let gates = c.args.self.now in
    let least : c.min.result ≡ min c.if-seen-gt0.state.1 (gates.cycle - c.args.place) = search rules in
    elim c.if-seen-gt0.branch [
      | then-seen-gt0 w ↦ let places = ap (λ (p : GateState × ℕ). p.1) w.state-is in omega arith
      | else-seen-gt0+then-seen-self w ↦
          let places = ap (λ (p : GateState × ℕ). p.1) w.state-is in
          let some = next-some gates.rows.now gates.guard gates.port c.args.place (omega arith) (omega arith) in
          omega arith
      | else-seen-gt0+else-seen-self w ↦ let places = ap (λ (p : GateState × ℕ). p.1) w.state-is in omega arith
    ]

pub returns-clause-lasts : goal.returns-clause-lasts
returns-clause-lasts c =
    let gates = c.args.self.now in
    let n = c.min.result in
    let least : n ≡ min c.if-seen-gt0.state.1 (gates.cycle - c.args.place) = search rules in
    elim c.if-seen-gt0.branch [
      | then-seen-gt0 w ↦
          let places = ap (λ (p : GateState × ℕ). p.1) w.state-is in
          let lasts = left-lasts gates.rows.now gates.guard gates.port c.args.place n (omega arith) (omega arith) in
          λ k less. lasts k less ∙ sym (ap (λ (p : GateState × ℕ). octet_of p.0) w.state-is)
      | else-seen-gt0+then-seen-self w ↦
          let places = ap (λ (p : GateState × ℕ). p.1) w.state-is in
          let lasts = next-lasts gates.rows.now gates.guard gates.port c.args.place n (omega arith) (omega arith) (omega arith) (omega arith) in
          λ k less. lasts k less ∙ sym (ap (λ (p : GateState × ℕ). octet_of p.0) w.state-is)
      | else-seen-gt0+else-seen-self w ↦
          let places = ap (λ (p : GateState × ℕ). p.1) w.state-is in
          let lasts = rest-lasts gates.rows.now gates.guard gates.port c.args.place n (omega arith) (omega arith) in
          λ k less. lasts k less ∙ sym (ap (λ (p : GateState × ℕ). octet_of p.0) w.state-is)
    ]
