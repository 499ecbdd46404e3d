use Rattle.std.proofs.Common.{[], ◌∷◌, List, map, ap, sym, subst, ◌∙◌}
use Rattle.asm_source.specs.declared.sources.Place.{Place}
use Rattle.asm_node.specs.declared.rule.Rule as node
use Rattle.asm_node.specs.declared.term.Term.{Term}
use Rattle.asm_node.specs.Machine.{Definition}
use Rattle.asm_node.specs.Parts.{defined_by}
use Rattle.asm_node.specs.RuleTree.{Skip, plain_rule}
use Rattle.asm_node.specs.Tree.{plain}
use Rattle.asm_node.specs.WellFormed.{IsWellFormed}
use Rattle.model_tests.proofs.TriedModels.{one_function, starts_at, same_machine, one_formed}
use Rattle.model_tests.proofs.evaluation.model_of.Goals as goal

abbrev body_at : Term → List Definition
body_at t = record { function = 0; parameters = []; body = plain t } ∷ []

pub new-requires-4-clause-well_formed : goal.new-requires-4-clause-well_formed
new-requires-4-clause-well_formed c =
    let place : Place = record { file = 0; at = 70 } in
    let v = c.args.value in
    subst IsWellFormed
    (sym (same_machine c.in_ok-signature.signature one_function c.in_ok-main.main (Skip place) c.new.result c.in_ok-initial_terms.initial_terms c.new-2.result (starts_at v ∷ []) c.new-3.result
    c.in_ok-signature.ensures (ap (λ (r : node.Rule). plain_rule r) c.in_ok-main.ensures.node) c.new.ensures
    (ap (map defined_by) c.in_ok-initial_terms.ensures ∙ ap body_at c.in_ok-term.ensures.node) c.new-2.ensures c.new-3.ensures))
    (one_formed place v c.requires.typed c.requires.small)
