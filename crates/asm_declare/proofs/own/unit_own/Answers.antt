use Rattle.std.proofs.Common.{refl}
use Rattle.asm_faults.specs.FunctionFaults.{own_faults}
use Rattle.asm_declare.proofs.Owning.{own_more, own_all}
use Rattle.asm_declare.proofs.own.unit_own.Goals as goal

pub loop-declaration-init : goal.loop-declaration-init
loop-declaration-init c = refl

pub loop-declaration-preserved : goal.loop-declaration-preserved
loop-declaration-preserved c =
    own_more (own_faults c.args.numbers.now) c.args.first.now c.loop-declaration.first c.declared_own.new.first c.args.number c.args.declarations.now c.loop-declaration.declaration-index c.declaration-item.result c.loop-declaration-test.true c.declaration-item.is c.loop-declaration.invariant c.in_ok-declared_own.ensures

pub returns : goal.returns
returns c = own_all (own_faults c.args.numbers.now) c.args.first.now c.loop-declaration.first c.args.number c.args.declarations.now c.loop-declaration.declaration-index c.loop-declaration-test.false c.loop-declaration.invariant
