use Rattle.std.proofs.Common.{◌≡◌, take}
use Rattle.asm_faults.specs.First.{noted}
use Rattle.asm_typing.specs.BodyPieces.{part_faults, over_definitions}
use Rattle.asm_typing.proofs.parts.parts.Given as goal

abbrev pub invariant-units : goal.invariant-units
invariant-units l = l.first ≡ noted l.initial.first (over_definitions (part_faults l.part l.known l.heads l.names) (take l.number l.units))
