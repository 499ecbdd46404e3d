use Rattle.std.proofs.Common.{◌≡◌, map, take}
use Rattle.asm_faults.specs.FunctionFaults.{number_or_whole}
use Rattle.asm_declare.proofs.listing.argument_domains.Given as goal

abbrev pub invariant-loop-argument : goal.invariant-loop-argument
invariant-loop-argument l = l.domains ≡ map (number_or_whole l.numbers) (take l.argument-index l.arguments)
