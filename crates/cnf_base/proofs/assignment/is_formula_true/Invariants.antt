use Rattle.std.proofs.Common.{◌≡◌, take, true}
use Rattle.cnf_base.specs.Clauses.{formula_true, value_in}
use Rattle.cnf_base.proofs.assignment.is_formula_true.Given as goal

abbrev pub invariant-loop-clause : goal.invariant-loop-clause
invariant-loop-clause l = formula_true (value_in l.assignment) (take l.clause-index l.clause-items) ≡ true
