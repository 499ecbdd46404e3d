use Rattle.std.proofs.Common.{◌≡◌, take, flat_map}
use Rattle.asm_faults.specs.First.{noted}
use Rattle.asm_typing.specs.BodyPieces.{body_in}
use Rattle.asm_typing.proofs.functions.each_function.Given as goal

abbrev pub invariant-items : goal.invariant-items
invariant-items l = l.first ≡ noted l.initial.first (flat_map (body_in l.known l.given l.unit) (take l.item-index l.items))
