use Rattle.std.proofs.Common.{◌≡◌, ◌+◌, ◌*◌, ◌++◌, arith, ap, length, refl, ◌∙◌, List}
use Rattle.cnf_base.specs.declared.lit.Lit.{Lit}
use Rattle.cnf_gate.specs.Gates.{gate_clauses, flip_all, literals}
use Rattle.cnf_gate.specs.Built.{Built, IsBuilt}
use Rattle.cnf_gate.proofs.Built.{IsBuilt-gate, within_limits, literals-append, length-flip_all}
use Rattle.cnf_gate.proofs.Meaning.{literals-gate}
use Rattle.cnf_gate.proofs.builder.Builder.gate.Goals as goal

pub invariant_of-self-2 : goal.invariant_of-self-2
invariant_of-self-2 c =
    let view : c.self.inside.variables ≡ c.args.self.now.count = ap (λ (b : Built). b.count) c.self.view_is in
    let gates : List (List Lit) = gate_clauses c.new-output.result (flip_all c.args.flip c.args.lits.now) in
    let more : c.push_gate.new.clauses.items ≡ gates = c.in_ok-push_gate.ensures ∙ ap (λ (z : List (List Lit)). z ++ gates) c.new-more.ensures.items in
    let new : c.append_reserved.new.clauses.items ≡ c.self.inside.fixed.items ++ gates = c.append_reserved.ensures.items ∙ (λ i. c.in_ok-reserve.ensures.items i ++ more i) in (
      rw new
          (IsBuilt-gate c.self.inside.fixed.items c.self.inside.required.items c.self.inside.groups c.self.inside.variables c.self.inside.literals (3 * length c.args.lits.now + 1)
          c.new-output.result c.args.flip c.args.lits.now c.self.invariant.0 c.new-output.ensures.var (omega (arith, view, c.requires)) refl (omega arith) (omega arith)),
      omega (arith, c.in_ok-reserve.ensures.ok, c.append_reserved.ensures.len, c.append_reserved.ensures.capacity, c.len.ensures, c.len-2.ensures),
    )

pub returns-clause-size : goal.returns-clause-size
returns-clause-size c =
    let gates : List (List Lit) = gate_clauses c.new-output.result (flip_all c.args.flip c.args.lits.now) in
    let more : c.push_gate.new.clauses.items ≡ gates = c.in_ok-push_gate.ensures ∙ ap (λ (z : List (List Lit)). z ++ gates) c.new-more.ensures.items in
    let new : c.append_reserved.new.clauses.items ≡ c.self.inside.fixed.items ++ gates = c.append_reserved.ensures.items ∙ (λ i. c.in_ok-reserve.ensures.items i ++ more i) in
    let was : literals c.self.inside.fixed.items ≡ literals c.args.self.now.fixed = ap (λ (b : Built). literals b.fixed) c.self.view_is in
    let kept : literals c.self.inside.required.items ≡ literals c.args.self.now.required = ap (λ (b : Built). literals b.required) c.self.view_is in
    omega (
      arith,
      ap literals new,
      literals-append c.self.inside.fixed.items gates,
      literals-gate c.new-output.result (flip_all c.args.flip c.args.lits.now),
      length-flip_all c.args.flip c.args.lits.now,
      was,
      kept,
    )

pub returns-clause-limits : goal.returns-clause-limits
returns-clause-limits c =
    let view : c.self.inside.variables ≡ c.args.self.now.count = ap (λ (b : Built). b.count) c.self.view_is in
    let gates : List (List Lit) = gate_clauses c.new-output.result (flip_all c.args.flip c.args.lits.now) in
    let more : c.push_gate.new.clauses.items ≡ gates = c.in_ok-push_gate.ensures ∙ ap (λ (z : List (List Lit)). z ++ gates) c.new-more.ensures.items in
    let new : c.append_reserved.new.clauses.items ≡ c.self.inside.fixed.items ++ gates = c.append_reserved.ensures.items ∙ (λ i. c.in_ok-reserve.ensures.items i ++ more i) in
    let built : IsBuilt c.append_reserved.new.clauses.items c.self.inside.required.items c.self.inside.groups (c.self.inside.variables + 1) (c.self.inside.literals + (3 * length c.args.lits.now + 1)) =
    rw new
    (IsBuilt-gate c.self.inside.fixed.items c.self.inside.required.items c.self.inside.groups c.self.inside.variables c.self.inside.literals (3 * length c.args.lits.now + 1)
    c.new-output.result c.args.flip c.args.lits.now c.self.invariant.0 c.new-output.ensures.var (omega (arith, view, c.requires)) refl (omega arith) (omega arith)) in
    within_limits c.append_reserved.new.clauses.items c.self.inside.required.items c.self.inside.groups (c.self.inside.variables + 1) (c.self.inside.literals + (3 * length c.args.lits.now + 1)) built
