use Rattle.std.proofs.Common.{refl}
use Rattle.asm_faults.specs.FunctionFaults.{function_of}
use Rattle.asm_declare.proofs.Making.{none_made, functions_more, functions_all}
use Rattle.asm_declare.proofs.listing.unit_functions.Goals as goal

pub loop-declaration-init : goal.loop-declaration-init
loop-declaration-init c = λ n. none_made (function_of c.args.numbers.now) c.args.list.now refl

pub loop-declaration-preserved : goal.loop-declaration-preserved
loop-declaration-preserved c = λ n.
    functions_more (function_of c.args.numbers.now) c.args.list.now c.loop-declaration.list c.add_function.new.list n c.args.declarations.now c.loop-declaration.declaration-index c.declaration-item.result c.loop-declaration-test.true c.declaration-item.is (c.loop-declaration.invariant n) (c.in_ok-add_function.ensures n)

pub returns : goal.returns
returns c = λ n. functions_all (function_of c.args.numbers.now) c.args.list.now c.loop-declaration.list n c.args.declarations.now c.loop-declaration.declaration-index c.loop-declaration-test.false (c.loop-declaration.invariant n)
