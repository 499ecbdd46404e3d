use Rattle.std.proofs.Common.{arith}
use Rattle.cnf_base.proofs.VariableBounds.{variables-take}
use Rattle.cnf_base.proofs.clause.variables.Goals as goal

pub loop-clause-preserved : goal.loop-clause-preserved
loop-clause-preserved c =
    let step = variables-take c.slice-clause-items.result.now c.loop-clause.clause-index c.clause-item.result (omega arith) c.clause-item.is in
    (omega (arith, step, c.loop-clause.invariant.0, c.max-above.ensures, c.clause_variables.ensures.value), omega (arith, c.clause_variables.ensures.bound, c.max-above.ensures, c.loop-clause.invariant.1))
