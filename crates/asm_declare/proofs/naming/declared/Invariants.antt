use Rattle.std.proofs.Common.{take, flat_map}
use Rattle.asm_faults.specs.Files.{names_in_declaration}
use Rattle.asm_declare.specs.Entered.{of_unit, AreEntered}
use Rattle.asm_declare.proofs.naming.declared.Given as goal

abbrev pub invariant-loop-declaration : goal.invariant-loop-declaration
invariant-loop-declaration l = AreEntered l.initial.first l.initial.names (of_unit l.number (flat_map names_in_declaration (take l.declaration-index l.declarations))) l.first l.names
