-- Conditions and rules over a model with which nothing is wrong.
use Rattle.std.proofs.Common.{◌≡◌, ℕ, List, [], None, Some, sym, subst}
use Rattle.asm_sign.specs.Vocabulary.{Vocabulary}
use Rattle.asm_node.specs.declared.term_type.TermType.TheVariants.{Boolean}
use Rattle.asm_node.specs.Machine.{Machine}
use Rattle.asm_node.specs.RuleTree.{Rule}
use Rattle.asm_node.specs.Tree.{Tree}
use Rattle.asm_node.specs.Types.{no_types}
use Rattle.asm_node.specs.Ranges.{no_ranges}
use Rattle.asm_node.specs.WellFormed.{IsCondition, IsRule}
use Rattle.asm_tree.specs.declared.rule.RawRule.{RawRule}
use Rattle.asm_tree.specs.declared.term.RawTerm.{RawTerm}
use Rattle.asm_tree.specs.declared.unit.LoadedUnit.{LoadedUnit}
use Rattle.asm_faults.specs.Bodies as bodies
use Rattle.asm_faults.specs.Bodies.{RuleHead}
use Rattle.asm_faults.specs.Model.{rule_of, tree_of}
use Rattle.asm_faults.specs.Ranges as ranges
use Rattle.asm_faults.specs.Ranges.{measured}
use Rattle.asm_faults.specs.Terms.{Judged, judged, asked}
use Rattle.asm_sound.proofs.Definitions.{agrees_none}
use Rattle.asm_sound.proofs.RangedRules.{rule_ranged}
use Rattle.asm_sound.proofs.RangedScopes.{agrees_none as none_ranged}
use Rattle.asm_sound.proofs.RangedTerms.{term_ranged}
use Rattle.asm_sound.proofs.TypedRules.{rule_typed}
use Rattle.asm_sound.proofs.TypedTerms.{IsReady, asked_own, asked_typed, term_typed}
use Rattle.asm_script.specs.Script.{IsConditionOf, IsRuleOf, condition_fault, heads_in, rule_fault, rule_names}
use Rattle.asm_script.proofs.Calling.{belong, files_named, named_alike}
use Rattle.asm_script.proofs.Keeping.{IsKept}
use Rattle.asm_script.proofs.Passing.{both_none}

module _ (m : Machine) (is_kept : IsKept m) where
  -- a condition with which nothing is wrong is a truth value of the model
  pub condition_sound : (raw : RawTerm) (t : Tree) → condition_fault m.signature raw ≡ None → IsConditionOf m.signature raw t → IsCondition m t
  condition_sound raw t none is =
      let v : Vocabulary = m.signature in
      let ready : IsReady v = is_kept.ready in
      let j : Judged = judged v 0 raw in
      let u : Tree = tree_of is.number v raw in
      let own = both_none (asked v 0 (Some Boolean) [] j) ((measured v 0 raw).faults []) none in
      let range = term_ranged is.number is.is_numbering v ready 0 raw [] [] no_ranges (none_ranged is.number) (asked_own v 0 (Some Boolean) [] j own.0) own.1 in
      let formed : IsCondition m u = record {
        typed = asked_typed is.number is.is_numbering v ready 0 Boolean j u (term_typed is.number is.is_numbering v ready 0 raw) [] no_types (agrees_none is.number) own.0;
        ranged = (range.0, range.2);
      } in
      subst (IsCondition m) (sym is.tree_is) formed

  -- a rule with which nothing is wrong is a rule of the model
  pub rule_sound : (file : ℕ) (raw : RawRule) (p : Rule) → rule_fault m raw ≡ None → IsRuleOf m file raw p → IsRule m p
  rule_sound file raw p none is =
      let v : Vocabulary = m.signature in
      let ready : IsReady v = is_kept.ready in
      let units : List LoadedUnit = files_named (rule_names m) in
      let heads : List RuleHead = heads_in m in
      let own = both_none (bodies.rule_faults v heads 0 raw []) (ranges.rule_faults v 0 raw []) none in
      let q : Rule = rule_of is.number v units file raw in
      let formed : IsRule m q = record {
        typed = rule_typed is.number is.is_numbering v ready units heads m.rules (belong is.number units m is_kept (named_alike m)) 0 file raw [] no_types (agrees_none is.number) own.0;
        ranged = rule_ranged is.number is.is_numbering v ready units heads 0 file raw [] [] no_ranges (none_ranged is.number) own.0 own.1;
      } in
      subst (IsRule m) (sym (is.tree_is units (named_alike m))) formed
