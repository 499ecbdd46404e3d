use Rattle.std.proofs.Common.{◌≡◌, None, subst}
use Rattle.std.specs.Prelude.{IfOk, IfErr}
use Rattle.asm_node.specs.Machine.{Machine}
use Rattle.asm_node.specs.Tree.{plain}
use Rattle.asm_node.specs.WellFormed.{IsCondition}
use Rattle.asm_script.specs.Script.{IsConditionOf, Tells, condition_fault}
use Rattle.asm_script.proofs.resolving.resolve_term.Goals as goal

pub returns-clause-faultless : goal.returns-clause-faultless
returns-clause-faultless c = subst (λ (m : Machine). IfOk c.condition.result (λ t. condition_fault m.signature c.args.raw.now ≡ None)) c.in_ok-script.ensures c.condition.ensures.faultless

pub returns-clause-term : goal.returns-clause-term
returns-clause-term c = subst (λ (m : Machine). IfOk c.condition.result (λ t. IsConditionOf m.signature c.args.raw.now (plain t.value))) c.in_ok-script.ensures c.condition.ensures.term

pub returns-clause-sound : goal.returns-clause-sound
returns-clause-sound c =
    subst (λ (m : Machine). IfOk c.condition.result (λ t. IsCondition m (plain t.value))) c.in_ok-script.ensures c.condition.ensures.sound

pub returns-clause-fault : goal.returns-clause-fault
returns-clause-fault c = subst (λ (m : Machine). IfErr c.condition.result (Tells c.args.file (condition_fault m.signature c.args.raw.now))) c.in_ok-script.ensures c.condition.ensures.fault
