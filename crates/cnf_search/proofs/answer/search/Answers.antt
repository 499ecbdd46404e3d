use Rattle.std.proofs.Common.{◌≡◌, ◌++◌, List, ap, arith, sym, subst, ◌∙◌, rules, true}
use Rattle.std.specs.List.{list_all}
use Rattle.std.specs.List.Sorted.{IsPermutation}
use Rattle.cnf_base.specs.declared.lit.Lit.{Lit}
use Rattle.cnf_base.specs.Clauses.{variables}
use Rattle.cnf_search.specs.Ended.{completed}
use Rattle.cnf_gate.specs.Built.{is_filled}
use Rattle.cnf_search.specs.Lines.{choices}
use Rattle.cnf_search.specs.Guides.{Guides}
use Rattle.cnf_search.specs.Trails.{values}
use Rattle.cnf_search.proofs.Ending.{guides_circuit, solved_by, spent_by}
use Rattle.cnf_search.proofs.Ordered.{guides_permuted, choices_permuted}
use Rattle.cnf_search.proofs.Whole.{satisfied_by}
use Rattle.cnf_search.proofs.answer.search.Goals as goal

pub walk_on-requires-clause-guided : goal.walk_on-requires-clause-guided
walk_on-requires-clause-guided c =
    let P : List (List Lit) → Type 0 = λ z. Guides z c.deref.result.now in
    let Q : List (List Lit) → Type 0 = λ z. Guides (c.args.circuit.now.fixed ++ c.args.circuit.now.required) z in
    let R : List (List Lit) → Type 0 = λ z. IsPermutation z c.in_ok-groups.groups.items in
    let all : Guides (c.args.circuit.now.fixed ++ c.args.circuit.now.required) c.in_ok-groups.groups.items =
    guides_permuted (c.args.circuit.now.fixed ++ c.args.circuit.now.required) c.args.circuit.now.groups c.in_ok-groups.groups.items
    (guides_circuit c.args.circuit.now.fixed c.args.circuit.now.required c.args.circuit.now.groups c.groups.ensures.circuit)
    (subst R (c.slice.ensures ∙ c.groups.ensures.value) c.in_ok-groups.ensures) in
    subst P (sym (c.in_ok-walk.ensures.formula ∙ c.formula-formula.ensures.value)) (subst Q (sym c.deref.ensures.value) all)

pub assignment-requires-clause-room : goal.assignment-requires-clause-room
assignment-requires-clause-room c =
    let s = solved_by c.deref.result.now c.walk_on.new.walk c.in_ok-walk_on.field-0 c.in-Solved.is c.in_ok-walk_on.ensures.ends in
    omega (arith, s.room, c.variables.ensures.value, ap variables c.in_ok-walk_on.ensures.kept.formula, ap variables c.in_ok-walk.ensures.formula)

pub returns-in_ok-assignment-in-Solved : goal.returns-in_ok-assignment-in-Solved
returns-in_ok-assignment-in-Solved c =
    let s = solved_by c.deref.result.now c.walk_on.new.walk c.in_ok-walk_on.field-0 c.in-Solved.is c.in_ok-walk_on.ensures.ends in
    satisfied_by c.walk_on.new.walk.checker.formula (c.args.circuit.now.fixed ++ c.args.circuit.now.required) c.in_ok-assignment-in-Solved.field-0
    (completed (values c.walk_on.new.walk.trace.entries)) c.variables.result
    (c.in_ok-walk_on.ensures.kept.formula ∙ (c.in_ok-walk.ensures.formula ∙ c.formula-formula.ensures.value))
    (c.variables.ensures.value ∙ ap variables c.formula-formula.ensures.value)
    c.in_ok-assignment-in-Solved.ensures.long c.in_ok-assignment-in-Solved.ensures.values s.holds

pub returns-in-Spent : goal.returns-in-Spent
returns-in-Spent c =
    let s = spent_by c.deref.result.now c.walk_on.new.walk c.in_ok-walk_on.field-0 c.in-Spent.is c.in_ok-walk_on.ensures.ends in
    let filled : list_all is_filled c.args.circuit.now.groups ≡ true = c.groups.ensures.circuit.grouped.filled in
    let R : List (List Lit) → Type 0 = λ z. IsPermutation z c.in_ok-groups.groups.items in
    let all : choices c.in_ok-groups.groups.items ≡ choices c.args.circuit.now.groups =
    choices_permuted c.args.circuit.now.groups c.in_ok-groups.groups.items filled (subst R (c.slice.ensures ∙ c.groups.ensures.value) c.in_ok-groups.ensures) in
    record {
      formula = search rules;
      accepted = search rules;
      distinct = search rules;
      many = search rules;
      over = omega (arith, s.over, ap choices c.deref.ensures.value, all, c.in_ok-walk_on.ensures.kept.allowed, c.in_ok-walk.ensures.allowed);
    }
