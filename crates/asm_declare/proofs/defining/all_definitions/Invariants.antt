use Rattle.std.proofs.Common.{take}
use Rattle.asm_faults.specs.DomainFaults.{domain_definitions}
use Rattle.asm_declare.specs.Measures.{AreDefined}
use Rattle.asm_declare.proofs.defining.all_definitions.Given as goal

abbrev pub invariant-loop-number : goal.invariant-loop-number
invariant-loop-number l =
    AreDefined l.initial.first l.initial.definitions.names l.initial.definitions.sizes (domain_definitions (take l.number l.units)) l.first l.definitions.names l.definitions.sizes
