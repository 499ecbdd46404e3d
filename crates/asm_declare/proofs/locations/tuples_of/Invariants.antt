use Rattle.std.proofs.Common.{◌≡◌, map, take}
use Rattle.asm_faults.specs.FunctionFaults.{product}
use Rattle.asm_declare.specs.Measures.{capped}
use Rattle.asm_declare.proofs.Locating.{argument_size}
use Rattle.asm_declare.proofs.locations.tuples_of.Given as goal

abbrev pub invariant-loop-argument : goal.invariant-loop-argument
invariant-loop-argument l = l.count ≡ capped (product (map (argument_size l.numbers) (take l.argument-index l.arguments)))
