use Rattle.std.proofs.Common.{refl, ap, ◌∙◌, arith}
use Rattle.asm_faults.specs.FunctionFaults.{size_of}
use Rattle.asm_declare.proofs.Locating.{argument_size, tuples_more, tuples_all}
use Rattle.asm_declare.proofs.locations.tuples_of.Goals as goal

pub loop-argument-init : goal.loop-argument-init
loop-argument-init c = refl

pub loop-argument-preserved : goal.loop-argument-preserved
loop-argument-preserved c =
    tuples_more (argument_size c.args.numbers.now) c.args.arguments.now c.loop-argument.argument-index c.argument-item.result c.loop-argument.count c.size-size.result c.times-count.result c.loop-argument-test.true c.argument-item.is c.loop-argument.invariant (c.size-size.ensures.value ∙ ap (size_of c.args.numbers.now) c.number_or_whole.ensures) c.times-count.ensures

pub returns : goal.returns
returns c = tuples_all (argument_size c.args.numbers.now) c.args.arguments.now c.loop-argument.argument-index c.loop-argument.count c.loop-argument-test.false c.loop-argument.invariant

pub times-count-requires : goal.times-count-requires
times-count-requires c = let few = c.loop-argument.invariant in record { count = omega (arith, few); size = c.size-size.ensures.few }
