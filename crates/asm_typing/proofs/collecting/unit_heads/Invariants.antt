use Rattle.std.proofs.Common.{◌≡◌, ◌++◌, take, flat_map}
use Rattle.asm_typing.specs.BodyPieces.{head_in}
use Rattle.asm_typing.proofs.collecting.unit_heads.Given as goal

abbrev pub invariant-items : goal.invariant-items
invariant-items l = l.heads ≡ l.fn.before ++ flat_map (head_in l.known) (take l.item-index l.items)
