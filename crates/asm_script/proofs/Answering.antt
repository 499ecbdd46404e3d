-- What is answered about conditions and rules over a model.
use Rattle.std.proofs.Common.{◌≡◌, ℕ, None, Result, Ok, Err}
use Rattle.std.specs.Prelude.{IfOk}
use Rattle.std.specs.declared.alloc.Global.{Global}
use Rattle.std.specs.declared.rc.Rc.{Rc}
use Rattle.asm_node.specs.declared.rule.Rule as of_rule
use Rattle.asm_node.specs.declared.term.Term.{Term}
use Rattle.asm_node.specs.Machine.{Machine}
use Rattle.asm_node.specs.RuleTree.{plain_rule}
use Rattle.asm_node.specs.Tree.{plain}
use Rattle.asm_node.specs.WellFormed.{IsCondition, IsRule}
use Rattle.asm_tree.specs.declared.rule.RawRule.{RawRule}
use Rattle.asm_tree.specs.declared.term.RawTerm.{RawTerm}
use Rattle.asm_faults.specs.declared.error.ModelError.{ModelError}
use Rattle.asm_script.specs.Script.{IsConditionOf, IsRuleOf, condition_fault, rule_fault}
use Rattle.asm_script.proofs.Keeping.{IsKept}
use Rattle.asm_script.proofs.Sound.{condition_sound, rule_sound}

pub condition_answered : (m : Machine) (raw : RawTerm) (result : Result (Rc Term Global) ModelError) → IsKept m
    → IfOk result (λ (t : Rc Term Global). condition_fault m.signature raw ≡ None) → IfOk result (λ (t : Rc Term Global). IsConditionOf m.signature raw (plain t.value))
    → IfOk result (λ (t : Rc Term Global). IsCondition m (plain t.value))
condition_answered m raw (Ok t) is_kept none is = condition_sound m is_kept raw (plain t.value) none is
condition_answered m raw (Err e) is_kept none is = tt

pub rule_answered : (m : Machine) (file : ℕ) (raw : RawRule) (result : Result (Rc of_rule.Rule Global) ModelError) → IsKept m
    → IfOk result (λ (r : Rc of_rule.Rule Global). rule_fault m raw ≡ None) → IfOk result (λ (r : Rc of_rule.Rule Global). IsRuleOf m file raw (plain_rule r.value))
    → IfOk result (λ (r : Rc of_rule.Rule Global). IsRule m (plain_rule r.value))
rule_answered m file raw (Ok r) is_kept none is = rule_sound m is_kept file raw (plain_rule r.value) none is
rule_answered m file raw (Err e) is_kept none is = tt
