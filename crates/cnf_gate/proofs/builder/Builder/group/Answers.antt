use Rattle.std.proofs.Common.{◌≡◌, ◌+◌, ◌*◌, ◌-◌, ◌++◌, ◌∷◌, [], List, arith, ap, ◌∙◌}
use Rattle.cnf_base.specs.declared.lit.Lit.{Lit}
use Rattle.cnf_gate.specs.Gates.{literals}
use Rattle.cnf_gate.specs.Built.{Built, IsBuilt}
use Rattle.cnf_gate.proofs.Built.{within_limits, literals-append}
use Rattle.cnf_gate.proofs.Choice.{IsBuilt-group, group_within}
use Rattle.cnf_gate.proofs.builder.Builder.group.Goals as goal

pub invariant_of-self-2 : goal.invariant_of-self-2
invariant_of-self-2 c =
    let new : c.append_reserved.new.clauses.items ≡ c.self.inside.fixed.items ++ c.in_ok-lits.more.items =
    c.append_reserved.ensures.items ∙ ap (λ (z : List (List Lit)). z ++ c.in_ok-lits.more.items) c.in_ok-reserve.ensures.items in
    let copy : c.in_ok-copy.copy ≡ c.in_ok-lits.lits = c.in_ok-copy.ensures ∙ c.slice.ensures in
    let groups : c.push.new.self ≡ c.self.inside.groups ++ c.in_ok-lits.lits ∷ [] =
    c.in_ok-push.ensures.ok ∙ ap (λ (z : List Lit). c.self.inside.groups ++ z ∷ []) copy in (
      rw (new, groups)
          (IsBuilt-group c.self.inside.fixed.items c.in_ok-lits.more.items c.self.inside.required.items c.self.inside.groups c.self.inside.variables c.self.inside.literals c.args.size
          (c.self.inside.variables + (2 * c.args.size - 1)) (c.self.inside.literals + (10 * c.args.size - 9)) c.in_ok-lits.lits c.self.invariant.0 c.in_ok-lits.ensures c.requires
          (omega arith) (omega arith) (omega arith) (omega arith)),
      omega (arith, c.in_ok-reserve.ensures.ok, c.append_reserved.ensures.len, c.append_reserved.ensures.capacity, c.len.ensures, c.len-2.ensures),
    )

pub returns-clause-within : goal.returns-clause-within
returns-clause-within c =
    group_within c.self.inside.fixed.items c.in_ok-lits.more.items c.self.inside.required.items c.self.inside.groups c.self.inside.variables c.self.inside.literals c.args.size
    (c.self.inside.variables + (2 * c.args.size - 1)) c.in_ok-lits.lits c.self.invariant.0 c.in_ok-lits.ensures (omega arith)

pub returns-clause-size : goal.returns-clause-size
returns-clause-size c =
    let new : c.append_reserved.new.clauses.items ≡ c.self.inside.fixed.items ++ c.in_ok-lits.more.items =
    c.append_reserved.ensures.items ∙ ap (λ (z : List (List Lit)). z ++ c.in_ok-lits.more.items) c.in_ok-reserve.ensures.items in
    let was : literals c.self.inside.fixed.items ≡ literals c.args.self.now.fixed = ap (λ (b : Built). literals b.fixed) c.self.view_is in
    let kept : literals c.self.inside.required.items ≡ literals c.args.self.now.required = ap (λ (b : Built). literals b.required) c.self.view_is in
    omega (arith, ap literals new, literals-append c.self.inside.fixed.items c.in_ok-lits.more.items, c.in_ok-lits.ensures.sized, was, kept)

pub returns-clause-limits : goal.returns-clause-limits
returns-clause-limits c =
    let new : c.append_reserved.new.clauses.items ≡ c.self.inside.fixed.items ++ c.in_ok-lits.more.items =
    c.append_reserved.ensures.items ∙ ap (λ (z : List (List Lit)). z ++ c.in_ok-lits.more.items) c.in_ok-reserve.ensures.items in
    let copy : c.in_ok-copy.copy ≡ c.in_ok-lits.lits = c.in_ok-copy.ensures ∙ c.slice.ensures in
    let groups : c.push.new.self ≡ c.self.inside.groups ++ c.in_ok-lits.lits ∷ [] =
    c.in_ok-push.ensures.ok ∙ ap (λ (z : List Lit). c.self.inside.groups ++ z ∷ []) copy in
    let built : IsBuilt c.append_reserved.new.clauses.items c.self.inside.required.items c.push.new.self (c.self.inside.variables + (2 * c.args.size - 1)) (c.self.inside.literals + (10 * c.args.size - 9)) =
    rw (new, groups)
    (IsBuilt-group c.self.inside.fixed.items c.in_ok-lits.more.items c.self.inside.required.items c.self.inside.groups c.self.inside.variables c.self.inside.literals c.args.size
    (c.self.inside.variables + (2 * c.args.size - 1)) (c.self.inside.literals + (10 * c.args.size - 9)) c.in_ok-lits.lits c.self.invariant.0 c.in_ok-lits.ensures c.requires
    (omega arith) (omega arith) (omega arith) (omega arith)) in
    within_limits c.append_reserved.new.clauses.items c.self.inside.required.items c.push.new.self (c.self.inside.variables + (2 * c.args.size - 1)) (c.self.inside.literals + (10 * c.args.size - 9)) built
