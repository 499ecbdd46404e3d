use Rattle.std.proofs.Common.{◌≡◌, ◌<◌, ◌+◌, ◌++◌, arith, ap, ◌∙◌, List, [], ◌∷◌}
use Rattle.cnf_base.specs.declared.lit.Lit.{Lit}
use Rattle.cnf_gate.specs.Built.{Built, IsBuilt}
use Rattle.cnf_gate.proofs.Built.{IsBuilt-require, within_limits}
use Rattle.cnf_gate.proofs.builder.Builder.require.Goals as goal

pub invariant_of-self-2 : goal.invariant_of-self-2
invariant_of-self-2 c =
    let room : c.args.lit.var < c.self.inside.variables = omega (arith, ap (λ (b : Built). b.count) c.self.view_is, c.requires) in
    let posed : c.push_clause.new.clauses.items ≡ c.self.inside.required.items ++ (c.args.lit ∷ []) ∷ [] =
    c.in_ok-push_clause.ensures.ok ∙ ap (λ (z : List Lit). c.self.inside.required.items ++ z ∷ []) c.in_ok-clause.ensures in (
      rw (c.in_ok-reserve.ensures.items, posed)
          (IsBuilt-require c.self.inside.fixed.items c.self.inside.required.items c.self.inside.groups c.self.inside.variables c.self.inside.literals c.args.lit c.self.invariant.0 room (omega arith)),
      omega (arith, c.in_ok-reserve.ensures.ok, c.in_ok-push_clause.ensures.len, c.len.ensures),
    )

pub returns-clause-limits : goal.returns-clause-limits
returns-clause-limits c =
    let room : c.args.lit.var < c.self.inside.variables = omega (arith, ap (λ (b : Built). b.count) c.self.view_is, c.requires) in
    let posed : c.push_clause.new.clauses.items ≡ c.self.inside.required.items ++ (c.args.lit ∷ []) ∷ [] =
    c.in_ok-push_clause.ensures.ok ∙ ap (λ (z : List Lit). c.self.inside.required.items ++ z ∷ []) c.in_ok-clause.ensures in
    let built : IsBuilt c.reserve.new.self.items c.push_clause.new.clauses.items c.self.inside.groups c.self.inside.variables (c.self.inside.literals + 1) =
    rw (c.in_ok-reserve.ensures.items, posed)
    (IsBuilt-require c.self.inside.fixed.items c.self.inside.required.items c.self.inside.groups c.self.inside.variables c.self.inside.literals c.args.lit c.self.invariant.0 room (omega arith)) in
    within_limits c.reserve.new.self.items c.push_clause.new.clauses.items c.self.inside.groups c.self.inside.variables (c.self.inside.literals + 1) built
