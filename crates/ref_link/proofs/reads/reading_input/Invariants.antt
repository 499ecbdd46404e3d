use Rattle.std.proofs.Common.{◌≡◌}
use Rattle.asm_node.specs.Model.{machine_of}
use Rattle.ref_link.specs.Linkable.{reads_input}
use Rattle.ref_link.specs.Rows.{for_each}
use Rattle.ref_link.proofs.reads.reading_input.Given as goal

abbrev pub invariant-loop : goal.invariant-loop
invariant-loop l = l.row.items ≡ for_each (machine_of l.model) (reads_input (machine_of l.model) l.counter)
