use Rattle.std.proofs.Common.{arith}
use Rattle.cnf_gate.proofs.Built.{IsBuilt-empty}
use Rattle.cnf_gate.proofs.builder.Builder.new.Goals as goal

pub invariant_of-result : goal.invariant_of-result
invariant_of-result c = (rw (c.new.ensures.items, c.new-2.ensures.items, c.new-3.ensures) IsBuilt-empty, omega arith)
