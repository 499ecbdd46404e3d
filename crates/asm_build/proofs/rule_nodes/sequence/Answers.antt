use Rattle.asm_build.proofs.RuleGrowing.{same_rule, from_none, from_first}
use Rattle.asm_build.proofs.rule_nodes.sequence.Goals as goal

pub returns-in_ok-make-in-empty-clause-made : goal.returns-in_ok-make-in-empty-clause-made
returns-in_ok-make-in-empty-clause-made c names = same_rule _ _ (λ number units agrees known. from_none c.args.place c.args.parts.now c.in-empty.len_below) (c.in_ok-make-in-empty.ensures.made names)

pub returns-in_ok-sequence_behind-in-len1-up-clause-made : goal.returns-in_ok-sequence_behind-in-len1-up-clause-made
returns-in_ok-sequence_behind-in-len1-up-clause-made c names = same_rule _ _ (λ number units agrees known. from_first c.args.place c.args.parts.now c.first-item.result c.in-len1-up.len_at_least c.first-item.is) (c.in_ok-sequence_behind-in-len1-up.ensures.made names)
