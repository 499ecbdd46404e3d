use Rattle.asm_update.proofs.Clashes.{AreQuiet}
use Rattle.asm_update.proofs.clash.first_clash.Given as goal

abbrev pub invariant-loop-pair : goal.invariant-loop-pair
invariant-loop-pair l = AreQuiet l.signature l.pairs l.pair-index
