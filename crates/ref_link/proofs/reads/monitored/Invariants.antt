use Rattle.std.proofs.Common.{◌≡◌, map}
use Rattle.std.specs.List.{range_with_len}
use Rattle.asm_node.specs.Model.{machine_of}
use Rattle.ref_link.specs.Linkable.{reads_input}
use Rattle.ref_link.proofs.reads.monitored.Given as goal

abbrev pub invariant-loop-function : goal.invariant-loop-function
invariant-loop-function l = l.row.items ≡ map (reads_input (machine_of l.model) 0) (range_with_len 0 l.function-index)
