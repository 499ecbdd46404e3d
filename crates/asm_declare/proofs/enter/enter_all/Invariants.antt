use Rattle.std.proofs.Common.{take}
use Rattle.asm_declare.specs.Entered.{of_unit, AreEntered}
use Rattle.asm_declare.proofs.enter.enter_all.Given as goal

abbrev pub invariant-loop-name : goal.invariant-loop-name
invariant-loop-name l = AreEntered l.initial.first l.initial.names (of_unit l.unit (take l.name-index l.more)) l.first l.names
