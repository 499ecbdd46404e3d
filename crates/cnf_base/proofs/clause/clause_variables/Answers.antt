use Rattle.std.proofs.Common.{arith}
use Rattle.cnf_base.proofs.VariableBounds.{clause_variables-take}
use Rattle.cnf_base.proofs.clause.clause_variables.Goals as goal

pub loop-lit-preserved : goal.loop-lit-preserved
loop-lit-preserved c =
    let step = clause_variables-take c.slice-lit-items.result.now c.loop-lit.lit-index c.lit-item.result (omega arith) c.lit-item.is in
    (omega (arith, step, c.loop-lit.invariant.0, c.max-above.ensures), omega (arith, c.lit-item.result.in_range, c.max-above.ensures, c.loop-lit.invariant.1))
