use Rattle.std.proofs.Common.{◌<◌, length, get_or, sym, arith}
use Rattle.asm_sign.specs.Vocabulary.{locations}
use Rattle.asm_domain.specs.declared.value.Value.TheVariants.{Undef}
use Rattle.asm_update.proofs.Clashes.{no_clash, clash_here}
use Rattle.asm_update.proofs.clash.first_clash.Goals as goal

pub returns-in-Some-clause-clash : goal.returns-in-Some-clause-clash
returns-in-Some-clause-clash c =
    let ps = c.args.pairs.now in
    let slot = (get_or ps c.loop-pair.pair-index (0, Undef)).0 in
    let within : slot < length (locations c.args.signature.now) = omega (arith, c.if-pair-slots.true, c.slots.ensures.value) in
    sym (clash_here c.args.signature.now ps c.loop-pair.pair-index c.in-Some.least c.in-Some.next c.requires c.loop-pair.invariant c.loop-pair-test.true within (sym c.in-Some.ensures.values))

pub returns-in-Some-clause-consistent : goal.returns-in-Some-clause-consistent
returns-in-Some-clause-consistent c agrees = c.in-Some.ensures.consistent agrees

pub returns-clause-clash : goal.returns-clause-clash
returns-clause-clash c = sym (no_clash c.args.signature.now c.args.pairs.now (λ k lt. c.loop-pair.invariant k (omega (arith, lt, c.loop-pair-test.false))))
