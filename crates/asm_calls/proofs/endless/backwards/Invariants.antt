use Rattle.asm_calls.specs.Graphs.{AreBounded}
use Rattle.asm_calls.proofs.endless.backwards.Given as goal

abbrev pub invariant-nodes : goal.invariant-nodes
invariant-nodes l = AreBounded l.graph l.row.items
