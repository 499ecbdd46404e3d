use Rattle.std.proofs.Common.{[], refl}
use Rattle.asm_declare.proofs.Seeking.{none_kept, kept_more, kept_all}
use Rattle.asm_declare.proofs.constants.unit_constants.Goals as goal

pub loop-declaration-init : goal.loop-declaration-init
loop-declaration-init c = λ n. none_kept c.args.domain.now c.args.names.now [] refl

pub loop-declaration-preserved : goal.loop-declaration-preserved
loop-declaration-preserved c = λ n.
    kept_more c.args.domain.now c.args.names.now c.loop-declaration.names c.add_constant.new.names n c.args.declarations.now c.loop-declaration.declaration-index c.declaration-item.result c.loop-declaration-test.true c.declaration-item.is (c.loop-declaration.invariant n) (c.in_ok-add_constant.ensures n)

pub returns : goal.returns
returns c = λ n. kept_all c.args.domain.now c.args.names.now c.loop-declaration.names n c.args.declarations.now c.loop-declaration.declaration-index c.loop-declaration-test.false (c.loop-declaration.invariant n)
