use Rattle.std.proofs.lemmas.Result.{err_from_is_err_and}
use Rattle.asm_script.proofs.conditions.condition_of.Goals as goal

pub returns-in_err-node-clause-fault : goal.returns-in_err-node-clause-fault
returns-in_err-node-clause-fault c =
    let p = err_from_is_err_and c.from_residual-in_err-node.result c.from_residual-in_err-node.ensures.1 in
    rw (p.1, p.2) tt
