use Rattle.std.proofs.Common.{◌+◌, List, [], drop, sym, ap, ◌∙◌, subst}
use Rattle.std.specs.declared.rc.Rc.{Rc}
use Rattle.std.specs.declared.alloc.Global.{Global}
use Rattle.asm_node.specs.declared.rule.Rule as of_rule
use Rattle.asm_node.specs.Pool.{rules_of, HasRule}
use Rattle.asm_node.specs.RuleTree.{Rule, Seq, plain_rule}
use Rattle.asm_build.specs.MadeRules.{plains_of_rules}
use Rattle.asm_build.specs.RuleParts.{sequence_on}
use Rattle.asm_build.proofs.Growing.{same_maker, grown_on}
use Rattle.asm_build.proofs.RuleGrowing.{rule_stays, dropped, dropped_all}
use Rattle.asm_build.proofs.rule_nodes.sequence_behind.Goals as goal

pub others-init : goal.others-init
others-init c = record {
  made = subst (λ (u : of_rule.Rule). HasRule (rules_of c.args.maker.now.pool) u) (sym c.in_ok-made.ensures.cases) c.requires.first;
  whole = ap (λ (u : of_rule.Rule). sequence_on c.args.place (plain_rule u) (plains_of_rules c.args.others.now)) c.in_ok-made.ensures.cases;
  grown = same_maker c.args.maker.now;
}

pub others-preserved : goal.others-preserved
others-preserved c = record {
  made = (c.in_ok-made-2.ensures.made []).is_of_pool;
  whole =
      ap (λ (t : Rule). sequence_on c.args.place t (plains_of_rules (drop (c.others.other-index + 1) c.args.others.now))) (c.in_ok-made-2.ensures.tree ∙ ap (λ (u : of_rule.Rule). Seq c.args.place (plain_rule c.others.made.value) (plain_rule u)) c.in_ok-clone.ensures.cases)
      ∙ ap (λ (us : List (Rc of_rule.Rule Global)). sequence_on c.args.place (plain_rule c.others.made.value) (plains_of_rules us)) (sym (dropped c.args.others.now c.others.other-index c.other-item.result c.others-test.true c.other-item.is))
      ∙ c.others.invariant.whole;
  grown = grown_on c.others.invariant.grown c.in_ok-made-2.ensures.grown;
}

pub make-requires : goal.make-requires
make-requires c = (
  c.others.invariant.made,
  subst (λ (u : of_rule.Rule). HasRule (rules_of c.others.maker.pool) u) (sym c.in_ok-clone.ensures.cases) (rule_stays c.other-item.result.value c.others.invariant.grown
      (subst (λ (r : Rc of_rule.Rule Global). HasRule (rules_of c.args.maker.now.pool) r.value) (sym c.other-item.is) (c.requires.others c.others.other-index c.other-item.result c.others-test.true))),
)

pub returns-clause-made : goal.returns-clause-made
returns-clause-made c names = record {
  is_of_pool = c.others.invariant.made;
  is_tree = λ number units agrees known.
      sym (ap (λ (us : List (Rc of_rule.Rule Global)). sequence_on c.args.place (plain_rule c.others.made.value) (plains_of_rules us)) (dropped_all c.args.others.now c.others.other-index c.others-test.false)) ∙ c.others.invariant.whole;
}

pub returns-clause-grown : goal.returns-clause-grown
returns-clause-grown c = c.others.invariant.grown
