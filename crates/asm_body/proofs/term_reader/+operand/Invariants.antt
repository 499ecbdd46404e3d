use Rattle.asm_body.proofs.term_reader.+operand.Given as goal

abbrev pub decreases-operand : goal.decreases-operand
decreases-operand l = l.levels
