use Rattle.std.proofs.Common.{◌≡◌, take, flat_map}
use Rattle.asm_tree.specs.declared.unit.RawUnit.{RawUnit}
use Rattle.asm_faults.specs.Files.{Of, numbered}
use Rattle.asm_typing.specs.BodyPieces.{head_in}
use Rattle.asm_typing.proofs.collecting.all_heads.Given as goal

abbrev pub invariant-units : goal.invariant-units
invariant-units l = l.heads ≡ flat_map (λ (p : Of RawUnit). flat_map (head_in l.known) p.1.definitions) (numbered (take l.number l.units))
