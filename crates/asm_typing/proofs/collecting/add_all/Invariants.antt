use Rattle.std.proofs.Common.{◌≡◌, ◌++◌, take}
use Rattle.asm_typing.specs.BodyPieces.{texts_of}
use Rattle.asm_typing.proofs.collecting.add_all.Given as goal

abbrev pub invariant-items : goal.invariant-items
invariant-items l = l.names ≡ l.initial.names ++ texts_of (take l.item-index l.items)
