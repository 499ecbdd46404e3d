use Rattle.std.proofs.Common.{◌≡◌, drop}
use Rattle.asm_faults.specs.First.{noted}
use Rattle.asm_faults.specs.Bodies.{parameter_faults}
use Rattle.asm_typing.proofs.functions.parameters.Given as goal

abbrev pub invariant-items : goal.invariant-items
invariant-items l = noted l.first (parameter_faults l.known.domains l.unit (drop l.index l.items) (drop l.index l.numbers)) ≡ noted l.initial.first (parameter_faults l.known.domains l.unit l.items l.numbers)
