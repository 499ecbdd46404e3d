use Rattle.std.proofs.Common.{refl}
use Rattle.asm_faults.specs.FunctionFaults.{declared_domain}
use Rattle.asm_declare.proofs.Building.{none_put, domains_more, domains_all}
use Rattle.asm_declare.proofs.universe.unit_domains.Goals as goal

pub loop-declaration-init : goal.loop-declaration-init
loop-declaration-init c = λ n. none_put (declared_domain c.args.units.now) c.args.list.now refl

pub loop-declaration-preserved : goal.loop-declaration-preserved
loop-declaration-preserved c = λ n.
    domains_more (declared_domain c.args.units.now) c.args.list.now c.loop-declaration.list c.add_domain.new.list n c.args.declarations.now c.loop-declaration.declaration-index c.declaration-item.result c.loop-declaration-test.true c.declaration-item.is (c.loop-declaration.invariant n) (c.in_ok-add_domain.ensures n)

pub returns : goal.returns
returns c = λ n. domains_all (declared_domain c.args.units.now) c.args.list.now c.loop-declaration.list n c.args.declarations.now c.loop-declaration.declaration-index c.loop-declaration-test.false (c.loop-declaration.invariant n)
