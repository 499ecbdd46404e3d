use Rattle.std.proofs.Common.{◌≡◌, take, flat_map}
use Rattle.asm_tree.specs.declared.unit.RawUnit.{RawUnit}
use Rattle.asm_faults.specs.Files.{Of, numbered}
use Rattle.asm_typing.proofs.BodyParts.{unit_texts}
use Rattle.asm_typing.proofs.collecting.all_names.Given as goal

abbrev pub invariant-units : goal.invariant-units
invariant-units l = l.names ≡ flat_map (λ (p : Of RawUnit). unit_texts p.1) (numbered (take l.number l.units))
