use Rattle.std.proofs.Common.{◌≡◌, ◌≤◌, take}
use Rattle.cnf_base.specs.Clauses.{clause_variables}
use Rattle.cnf_base.proofs.clause.clause_variables.Given as goal

abbrev pub invariant-loop-lit : goal.invariant-loop-lit
invariant-loop-lit l = (l.above ≡ clause_variables (take l.lit-index l.lit-items)) × (l.above ≤ 2000000)
