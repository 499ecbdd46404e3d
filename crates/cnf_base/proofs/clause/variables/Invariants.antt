use Rattle.std.proofs.Common.{◌≡◌, ◌≤◌, take}
use Rattle.cnf_base.specs.Clauses.{variables}
use Rattle.cnf_base.proofs.clause.variables.Given as goal

abbrev pub invariant-loop-clause : goal.invariant-loop-clause
invariant-loop-clause l = (l.above ≡ variables (take l.clause-index l.clause-items)) × (l.above ≤ 2000000)
