use Rattle.std.proofs.Common.{◌≡◌, ◌++◌, take, flat_map}
use Rattle.asm_faults.specs.First.{noted}
use Rattle.asm_faults.specs.FunctionFaults.{unknown_domain, infinite_domain}
use Rattle.asm_declare.proofs.own.note_arguments.Given as goal

abbrev pub invariant-loop-argument : goal.invariant-loop-argument
invariant-loop-argument l = l.first ≡ noted l.initial.first (flat_map (λ d. unknown_domain l.numbers l.number d ++ infinite_domain l.number d) (take l.argument-index l.arguments))
