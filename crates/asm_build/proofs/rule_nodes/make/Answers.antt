use Rattle.std.proofs.Common.{[], ◌∷◌, refl}
use Rattle.asm_build.proofs.RuleGrowing.{grown_rules}
use Rattle.asm_build.proofs.rule_nodes.make.Goals as goal

pub returns-clause-grown : goal.returns-clause-grown
returns-clause-grown c = grown_rules c.args.maker.now _ (c.in_ok-rule.field-0.value ∷ []) c.rule.ensures.terms c.in_ok-rule.ensures.rules refl
