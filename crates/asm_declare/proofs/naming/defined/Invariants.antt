use Rattle.std.proofs.Common.{take, flat_map}
use Rattle.asm_faults.specs.Files.{names_in_definition}
use Rattle.asm_declare.specs.Entered.{of_unit, AreEntered}
use Rattle.asm_declare.proofs.naming.defined.Given as goal

abbrev pub invariant-loop-definition : goal.invariant-loop-definition
invariant-loop-definition l = AreEntered l.initial.first l.initial.names (of_unit l.number (flat_map names_in_definition (take l.definition-index l.definitions))) l.first l.names
