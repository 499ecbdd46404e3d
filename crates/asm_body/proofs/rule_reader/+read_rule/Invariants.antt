use Rattle.asm_body.proofs.rule_reader.+read_rule.Given as goal

abbrev pub decreases-read_rule : goal.decreases-read_rule
decreases-read_rule l = l.levels
