use Rattle.std.proofs.Common.{◌≡◌, None, sym, subst, ◌∙◌}
use Rattle.std.specs.Prelude.{IfOk, IfErr}
use Rattle.asm_node.specs.Machine.{Machine}
use Rattle.asm_node.specs.RuleTree.{plain_rule}
use Rattle.asm_script.specs.Script.{IsRuleOf, Tells}
use Rattle.asm_script.proofs.Answering.{rule_answered}
use Rattle.asm_script.proofs.Keeping.{IsKept, kept}
use Rattle.asm_script.proofs.Tabling.{same_fault}
use Rattle.asm_script.proofs.script.Script.rule.Goals as goal

pub rule_of-requires : goal.rule_of-requires
rule_of-requires c = c.self.invariant.intervals_are ∙ sym c.self.invariant.known_are

pub returns-clause-faultless : goal.returns-clause-faultless
returns-clause-faultless c =
    let same = same_fault _ c.args.self.now _ _ _ _ c.args.raw.now c.self.invariant c.self.view_is in
    subst (λ o. IfOk c.rule_of.result (λ r. o ≡ None)) same c.rule_of.ensures.faultless

pub returns-clause-rule : goal.returns-clause-rule
returns-clause-rule c =
    subst (λ (m : Machine). IfOk c.rule_of.result (λ r. IsRuleOf m c.args.file c.args.raw.now (plain_rule r.value))) c.self.view_is (c.rule_of.ensures.rule _ c.self.invariant.known_are c.self.invariant.names_are)

pub returns-clause-sound : goal.returns-clause-sound
returns-clause-sound c =
    let m = c.args.self.now in
    let raw = c.args.raw.now in
    let same = same_fault _ m _ _ _ _ raw c.self.invariant c.self.view_is in
    let is_kept : IsKept m = subst IsKept c.self.view_is (kept c.self.inside.model.now) in
    rule_answered m c.args.file raw c.rule_of.result is_kept
    (subst (λ o. IfOk c.rule_of.result (λ r. o ≡ None)) same c.rule_of.ensures.faultless)
    (subst (λ (n : Machine). IfOk c.rule_of.result (λ r. IsRuleOf n c.args.file raw (plain_rule r.value))) c.self.view_is (c.rule_of.ensures.rule _ c.self.invariant.known_are c.self.invariant.names_are))

pub returns-clause-fault : goal.returns-clause-fault
returns-clause-fault c =
    let same = same_fault _ c.args.self.now _ _ _ _ c.args.raw.now c.self.invariant c.self.view_is in
    subst (λ o. IfErr c.rule_of.result (Tells c.args.file o)) same c.rule_of.ensures.fault
