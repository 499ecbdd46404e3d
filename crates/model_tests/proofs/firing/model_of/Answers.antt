use Rattle.std.proofs.Common.{[], map, ap, sym, subst}
use Rattle.asm_source.specs.declared.sources.Place.{Place}
use Rattle.asm_node.specs.declared.rule.Rule as node
use Rattle.asm_node.specs.Parts.{defined_by}
use Rattle.asm_node.specs.RuleTree.{Skip, plain_rule}
use Rattle.asm_node.specs.WellFormed.{IsWellFormed}
use Rattle.model_tests.proofs.TriedModels.{same_machine}
use Rattle.model_tests.proofs.TriedRules.{one_function, one_formed}
use Rattle.model_tests.proofs.firing.model_of.Goals as goal

pub new-requires-5-clause-well_formed : goal.new-requires-5-clause-well_formed
new-requires-5-clause-well_formed c =
    let place : Place = record { file = 0; at = 70 } in
    subst IsWellFormed
    (sym (same_machine c.in_ok-signature.signature one_function c.in_ok-main.main (Skip place) c.new.result c.new-2.result c.new-3.result [] c.new-4.result
    c.in_ok-signature.ensures (ap (λ (r : node.Rule). plain_rule r) c.in_ok-main.ensures.node) c.new.ensures (ap (map defined_by) c.new-2.ensures) c.new-3.ensures c.new-4.ensures))
    (one_formed place)
