use Rattle.std.proofs.Common.{◌≡◌, None, subst}
use Rattle.std.proofs.lemmas.Result.{err_from_is_err_and}
use Rattle.asm_sign.specs.Vocabulary.{Vocabulary}
use Rattle.asm_faults.specs.First.{first_fault}
use Rattle.asm_resolve.specs.Resolved.{Tells, use_faults}
use Rattle.asm_resolve.proofs.Passing.{nothing_wrong, uses_told}
use Rattle.asm_resolve.proofs.resolving.resolve.Goals as goal

pub returns-in_err-parts-clause-fault : goal.returns-in_err-parts-clause-fault
returns-in_err-parts-clause-fault c =
    let p = err_from_is_err_and c.from_residual-in_err-parts.result c.from_residual-in_err-parts.ensures.1 in
    rw (p.1, p.2)
    (uses_told c.args.units.now c.in_err-parts.field-0.0 c.in_ok-signature.ensures.faultless
    (subst (λ (v : Vocabulary). Tells c.args.units.now (first_fault (use_faults v c.args.units.now)) c.in_err-parts.field-0.0) c.in_ok-signature.ensures.signature c.in_err-parts.ensures.fault))

pub model-requires-clause-faultless : goal.model-requires-clause-faultless
model-requires-clause-faultless c =
    nothing_wrong c.args.units.now c.in_ok-signature.ensures.faultless
    (subst (λ (v : Vocabulary). first_fault (use_faults v c.args.units.now) ≡ None) c.in_ok-signature.ensures.signature c.in_ok-parts.ensures.faultless)

pub returns-clause-faultless : goal.returns-clause-faultless
returns-clause-faultless c =
    nothing_wrong c.args.units.now c.in_ok-signature.ensures.faultless
    (subst (λ (v : Vocabulary). first_fault (use_faults v c.args.units.now) ≡ None) c.in_ok-signature.ensures.signature c.in_ok-parts.ensures.faultless)
