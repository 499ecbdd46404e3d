-- What is made of a condition or a rule has numbers for all names.
use Rattle.std.proofs.Common.{◌≡◌, ℕ, List, sym, ap, ◌∙◌}
use Rattle.asm_sign.specs.Vocabulary.{Vocabulary}
use Rattle.asm_node.specs.declared.rule.Rule as of_rule
use Rattle.asm_node.specs.declared.term.Term.{Term}
use Rattle.asm_node.specs.Machine.{Machine}
use Rattle.asm_node.specs.RuleTree.{plain_rule}
use Rattle.asm_node.specs.Tree.{plain}
use Rattle.asm_tree.specs.declared.rule.RawRule.{RawRule}
use Rattle.asm_tree.specs.declared.term.RawTerm.{RawTerm}
use Rattle.asm_faults.specs.At.{Name}
use Rattle.asm_faults.specs.Model.{rule_of, tree_of}
use Rattle.asm_build.specs.declared.maker.Maker.{Maker}
use Rattle.asm_build.specs.Made.{IsTerm}
use Rattle.asm_build.specs.MadeRules.{IsRule}
use Rattle.asm_build.proofs.Numbering.{agrees_with, is_numbering, numbered}
use Rattle.asm_script.specs.Script.{IsConditionOf, IsRuleOf, rule_names}

pub condition_made : (maker : Maker) (v : Vocabulary) (raw : RawTerm) (t : Term) → IsTerm maker (λ number. tree_of number v raw) t → IsConditionOf v raw (plain t)
condition_made maker v raw t made = record {
  number = numbered maker.variables;
  is_numbering = is_numbering maker.variables;
  tree_is = made.is_tree (numbered maker.variables) (agrees_with maker.variables);
}

pub rule_made : (maker : Maker) (m : Machine) (v : Vocabulary) (names : List Name) (file : ℕ) (raw : RawRule) (r : of_rule.Rule) → v ≡ m.signature → names ≡ rule_names m → IsRule maker names (λ number units. rule_of number v units file raw) r → IsRuleOf m file raw (plain_rule r)
rule_made maker m v names file raw r same named made = record {
  number = numbered maker.variables;
  is_numbering = is_numbering maker.variables;
  tree_is = λ units alike. made.is_tree (numbered maker.variables) units (agrees_with maker.variables) (named ∙ sym alike) ∙ ap (λ (w : Vocabulary). rule_of (numbered maker.variables) w units file raw) same;
}
