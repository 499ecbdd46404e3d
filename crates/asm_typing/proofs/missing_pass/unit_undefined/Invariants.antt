use Rattle.std.proofs.Common.{◌≡◌, take, flat_map}
use Rattle.asm_tree.specs.declared.unit.RawDeclaration.{RawDeclaration}
use Rattle.asm_faults.specs.First.{noted}
use Rattle.asm_typing.specs.BodyPieces.{undefined_at}
use Rattle.asm_typing.proofs.missing_pass.unit_undefined.Given as goal

abbrev pub invariant-items : goal.invariant-items
invariant-items l = l.first ≡ noted l.initial.first (flat_map (λ (d : RawDeclaration). undefined_at l.known.domains l.defined (l.unit, d)) (take l.item-index l.items))
