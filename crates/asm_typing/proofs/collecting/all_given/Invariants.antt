use Rattle.std.proofs.Common.{take}
use Rattle.asm_typing.specs.BodyPieces.{AreMet, over_definitions, given_name}
use Rattle.asm_typing.proofs.collecting.all_given.Given as goal

abbrev pub invariant-units : goal.invariant-units
invariant-units l = AreMet l.initial.first l.initial.seen (over_definitions given_name (take l.number l.units)) l.first l.seen
