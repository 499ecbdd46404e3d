use Rattle.std.proofs.Common.{◌≡◌, None, subst}
use Rattle.std.specs.Prelude.{IfOk, IfErr}
use Rattle.asm_node.specs.Machine.{Machine}
use Rattle.asm_node.specs.RuleTree.{plain_rule}
use Rattle.asm_node.specs.WellFormed.{IsRule}
use Rattle.asm_script.specs.Script.{IsRuleOf, Tells, rule_fault}
use Rattle.asm_script.proofs.resolving.resolve_rule.Goals as goal

pub returns-clause-faultless : goal.returns-clause-faultless
returns-clause-faultless c = subst (λ (m : Machine). IfOk c.rule.result (λ r. rule_fault m c.args.raw.now ≡ None)) c.in_ok-script.ensures c.rule.ensures.faultless

pub returns-clause-rule : goal.returns-clause-rule
returns-clause-rule c = subst (λ (m : Machine). IfOk c.rule.result (λ r. IsRuleOf m c.args.file c.args.raw.now (plain_rule r.value))) c.in_ok-script.ensures c.rule.ensures.rule

pub returns-clause-sound : goal.returns-clause-sound
returns-clause-sound c =
    subst (λ (m : Machine). IfOk c.rule.result (λ r. IsRule m (plain_rule r.value))) c.in_ok-script.ensures c.rule.ensures.sound

pub returns-clause-fault : goal.returns-clause-fault
returns-clause-fault c = subst (λ (m : Machine). IfErr c.rule.result (Tells c.args.file (rule_fault m c.args.raw.now))) c.in_ok-script.ensures c.rule.ensures.fault
