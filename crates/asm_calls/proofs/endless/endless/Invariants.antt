use Rattle.asm_calls.specs.Graphs.{AreBounded}
use Rattle.asm_calls.proofs.endless.endless.Given as goal

abbrev pub invariant-rounds : goal.invariant-rounds
invariant-rounds l = AreBounded l.graph l.row.items
