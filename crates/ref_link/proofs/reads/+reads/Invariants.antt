use Rattle.std.proofs.Common.{◌≡◌, ◌+◌, ◌*◌, drop}
use Rattle.asm_node.specs.Tree.{plain, plain_all}
use Rattle.asm_node.specs.Weight.{nodes, nodes_all}
use Rattle.ref_link.specs.Linkable.{read_any}
use Rattle.ref_link.specs.Rows.{is_in}
use Rattle.ref_link.proofs.reads.+reads.Given as goal

abbrev pub decreases-reads : goal.decreases-reads
decreases-reads l = 2 * nodes (plain l.term.now.value)

abbrev pub decreases-some_reads : goal.decreases-some_reads
decreases-some_reads l = 2 * nodes_all (plain_all l.terms.now) + 1

-- no term so far reads one that is in the row
abbrev pub invariant-some_reads-loop-term : goal.invariant-some_reads-loop-term
invariant-some_reads-loop-term l = read_any (is_in l.row) (plain_all (drop l.term-index l.terms)) ≡ read_any (is_in l.row) (plain_all l.terms)
