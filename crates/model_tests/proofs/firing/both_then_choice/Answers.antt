use Rattle.std.proofs.Common.{◌≡◌, true, [], ◌∷◌, ap, ◌∙◌}
use Rattle.std.proofs.lemmas.Result.{IfOk-weaker}
use Rattle.asm_domain.specs.declared.value.Value.TheVariants.{Bool}
use Rattle.asm_source.specs.declared.sources.Place.{Place}
use Rattle.asm_node.specs.declared.rule.RuleKind as node
use Rattle.asm_node.specs.RuleTree.{Rule, Update, Par, Seq, Choose, Skip, none, more, plain_rule, plain_rules, plain_kind}
use Rattle.asm_node.specs.Tree.{Const, Var}
use Rattle.asm_node.specs.Tree as tree
use Rattle.asm_fire.proofs.Firing.{plain_kind-Par}
use Rattle.model_tests.proofs.TriedRules.{chosen, both_then_chosen}
use Rattle.model_tests.proofs.firing.both_then_choice.Goals as goal

pub returns : goal.returns
returns c =
    let place : Place = record { file = 0; at = 70 } in
    let both : plain_rule c.in_ok-both.both.value ≡ Par place (more (plain_rule c.in_ok-first.first.value) (more (plain_rule c.in_ok-second.second.value) none)) =
    ap plain_kind c.in_ok-both.ensures ∙ plain_kind-Par place c.in_ok-parts.parts ∙ ap (λ rs. Par place (plain_rules rs)) c.in_ok-parts.ensures in
    IfOk-weaker c.rule-2.result (λ r. r.value.kind ≡ node.Seq place c.in_ok-both.both c.in_ok-choice.choice) (λ r. plain_rule r.value ≡ both_then_chosen place c.args.first c.args.second)
    (λ r is. ap plain_kind is ∙ (λ i. Seq place (both i) (c.in_ok-choice.ensures i)) ∙ (λ i. Seq place (Par place (more (c.in_ok-first.ensures i) (more (c.in_ok-second.ensures i) none))) (chosen place)))
    c.rule-2.ensures
