use Rattle.std.proofs.Common.{sym, subst}
use Rattle.asm_fire.specs.Sound.{IsSound}
use Rattle.asm_fire.proofs.Sounding.{rule_of_model}
use Rattle.asm_node.specs.RuleTree.{plain_rule}
use Rattle.asm_node.specs.Step.{IsInput}
use Rattle.asm_node.specs.WellFormed.{IsRule}
use Rattle.asm_run.proofs.session.Session.exec.Goals as goal

pub advance-requires-clause-sound : goal.advance-requires-clause-sound
advance-requires-clause-sound c = λ model same.
    let i = c.args.input.now in
    let rule = plain_rule c.args.rule.now.value in
    subst (λ m. IsSound m i rule) same (rule_of_model model i (subst (λ m. IsInput m i) (sym same) c.requires.input) rule (subst (λ m. IsRule m rule) (sym same) c.requires.rule))
