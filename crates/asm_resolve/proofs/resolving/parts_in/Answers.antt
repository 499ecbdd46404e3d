use Rattle.std.proofs.lemmas.Result.{err_from_is_err_and}
use Rattle.asm_resolve.proofs.resolving.parts_in.Goals as goal

pub returns-in_err-parts-clause-fault : goal.returns-in_err-parts-clause-fault
returns-in_err-parts-clause-fault c =
    let p = err_from_is_err_and c.from_residual-in_err-parts.result c.from_residual-in_err-parts.ensures.1 in
    rw (p.1, p.2) tt
