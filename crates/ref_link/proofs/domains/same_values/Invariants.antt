use Rattle.std.proofs.Common.{◌≡◌, drop}
use Rattle.asm_domain.specs.Universe.{elements}
use Rattle.asm_node.specs.Values.{same}
use Rattle.ref_link.specs.Linkable.{alike}
use Rattle.ref_link.proofs.domains.same_values.Given as goal

abbrev pub invariant-loop-rank : goal.invariant-loop-rank
invariant-loop-rank l = alike same (drop l.rank (elements l.first)) (drop l.rank (elements l.second)) ≡ alike same (elements l.first) (elements l.second)
