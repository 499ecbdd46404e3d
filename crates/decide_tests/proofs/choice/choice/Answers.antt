use Rattle.std.proofs.Common.{◌≡◌, ◌++◌, ◌∷◌, [], ap, ◌∙◌, List, slice_index_or}
use Rattle.cnf_base.specs.declared.lit.Lit.{Lit}
use Rattle.cnf_base.specs.Clauses.{negate}
use Rattle.decide_tests.specs.Choices.{forbidden}
use Rattle.decide_tests.proofs.Choosing.{choosing}
use Rattle.decide_tests.proofs.choice.choice.Goals as goal

pub returns-clause-ok : goal.returns-clause-ok
returns-clause-ok c =
    let g = c.in-Ok.group in
    let l = c.index-slice-0.result in
    let groups : c.finish-circuit.result.groups ≡ g ∷ [] =
    c.finish-circuit.ensures.groups ∙ (c.in_ok-force-2.ensures.groups ∙ (c.in_ok-force.ensures.groups ∙ (c.in-Ok.ensures.adds.groups
    ∙ ap (λ (z : List (List Lit)). z ++ g ∷ []) c.new-builder.ensures.groups))) in
    let first : c.force.new.builder.required ≡ forbidden c.args.first (negate l) =
    c.in_ok-force.ensures.required ∙ (ap (λ (z : List (List Lit)). z ++ forbidden c.args.first c.negated.result) (c.in-Ok.ensures.adds.required ∙ c.new-builder.ensures.required)
    ∙ ap (forbidden c.args.first) c.negated.ensures.value) in
    let required : c.finish-circuit.result.required ≡ forbidden c.args.first (negate l) ++ forbidden c.args.second l =
    c.finish-circuit.ensures.required ∙ (c.in_ok-force-2.ensures.required ∙ ap (λ (z : List (List Lit)). z ++ forbidden c.args.second l) first) in
    choosing c.finish-circuit.result g l l c.args.first c.args.second c.in-Ok.ensures.long (c.index-slice-0.is ∙ ap (λ (z : List Lit). slice_index_or z 0 l) c.slice.ensures) groups required
    c.formula-formula.ensures.choices c.formula-formula.ensures.circuit.posed
