use Rattle.std.proofs.Common.{◌++◌, refl}
use Rattle.asm_faults.specs.FunctionFaults.{unknown_domain, infinite_domain}
use Rattle.asm_declare.proofs.Owning.{arguments_more, arguments_all}
use Rattle.asm_declare.proofs.own.note_arguments.Goals as goal

pub loop-argument-init : goal.loop-argument-init
loop-argument-init c = refl

pub loop-argument-preserved : goal.loop-argument-preserved
loop-argument-preserved c =
    arguments_more (λ d. unknown_domain c.args.numbers.now c.args.number d ++ infinite_domain c.args.number d) c.args.first.now c.loop-argument.first c.note_argument.new.first c.args.arguments.now c.loop-argument.argument-index c.argument-item.result c.loop-argument-test.true c.argument-item.is c.loop-argument.invariant c.in_ok-note_argument.ensures

pub returns : goal.returns
returns c = arguments_all (λ d. unknown_domain c.args.numbers.now c.args.number d ++ infinite_domain c.args.number d) c.args.first.now c.loop-argument.first c.args.arguments.now c.loop-argument.argument-index c.loop-argument-test.false c.loop-argument.invariant
