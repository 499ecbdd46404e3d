use Rattle.std.proofs.Common.{arith}
use Rattle.asm_declare.proofs.Counting.{none_counted, constants_more, constants_all}
use Rattle.asm_declare.proofs.measure.constants_in.Goals as goal

pub loop-declaration-init : goal.loop-declaration-init
loop-declaration-init c = λ number. none_counted c.args.others c.requires

pub loop-declaration-preserved : goal.loop-declaration-preserved
loop-declaration-preserved c = λ number.
    constants_more c.args.domain.now c.args.others number c.args.declarations.now c.loop-declaration.declaration-index c.declaration-item.result c.loop-declaration.count _ c.one_more-count.result c.loop-declaration-test.true c.declaration-item.is (c.loop-declaration.invariant number) (c.is_constant.ensures number) c.one_more-count.ensures

pub returns : goal.returns
returns c = λ number. constants_all c.args.domain.now c.args.others number c.args.declarations.now c.loop-declaration.declaration-index c.loop-declaration.count c.loop-declaration-test.false (c.loop-declaration.invariant number)

pub one_more-count-requires : goal.one_more-count-requires
one_more-count-requires c = let few = c.loop-declaration.invariant 0 in omega (arith, few)
