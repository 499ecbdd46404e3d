use Rattle.std.proofs.Common.{take}
use Rattle.asm_declare.specs.Measures.{definitions_in, AreDefined}
use Rattle.asm_declare.proofs.defining.unit_definitions.Given as goal

abbrev pub invariant-loop-item : goal.invariant-loop-item
invariant-loop-item l =
    AreDefined l.initial.first l.initial.definitions.names l.initial.definitions.sizes (definitions_in l.number (take l.item-index l.items)) l.first l.definitions.names l.definitions.sizes
