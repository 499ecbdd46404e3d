use Rattle.std.proofs.Common.{◌≡◌, map, slice_get}
use Rattle.std.specs.List.{range_with_len}
use Rattle.asm_node.specs.Model.{machine_of}
use Rattle.ref_link.specs.Linkable.{is_input_or_reads}
use Rattle.ref_link.specs.Rows.{is_in}
use Rattle.ref_link.proofs.reads.reading.Given as goal

abbrev pub invariant-loop-number : goal.invariant-loop-number
invariant-loop-number l = l.next.items ≡ map (λ f. is_input_or_reads (machine_of l.model) (is_in l.row) f (slice_get (machine_of l.model).signature.functions f)) (range_with_len 0 l.number)
