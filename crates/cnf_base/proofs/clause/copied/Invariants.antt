use Rattle.std.proofs.Common.{◌≡◌, take}
use Rattle.cnf_base.proofs.clause.copied.Given as goal

abbrev pub invariant-loop-clause : goal.invariant-loop-clause
invariant-loop-clause l = l.copy ≡ take l.clause-index l.clause-items
