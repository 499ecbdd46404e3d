use Rattle.std.proofs.Common.{◌-◌, length}
use Rattle.asm_lex.proofs.Steps.{CutsTo}
use Rattle.asm_lex.proofs.cutting.lex.Given as goal

abbrev pub invariant-pieces : goal.invariant-pieces
invariant-pieces l = CutsTo l.text l.tokens l.at

abbrev pub decreases-pieces : goal.decreases-pieces
decreases-pieces l = length l.text - l.at
