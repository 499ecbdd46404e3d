use Rattle.std.proofs.Common.{take}
use Rattle.asm_faults.specs.Files.{all_of, names_in}
use Rattle.asm_declare.specs.Entered.{AreEntered}
use Rattle.asm_declare.proofs.naming.all_names.Given as goal

abbrev pub invariant-loop-number : goal.invariant-loop-number
invariant-loop-number l = AreEntered l.initial.first l.initial.names (all_of names_in (take l.number l.units)) l.first l.names
