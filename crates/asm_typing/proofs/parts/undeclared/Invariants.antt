use Rattle.std.proofs.Common.{◌≡◌, [], ◌∷◌, take, if◌then◌else◌, flat_map}
use Rattle.asm_tree.specs.declared.term.RawName.{RawName}
use Rattle.asm_faults.specs.declared.fault.ModelFault.TheVariants.{Unknown}
use Rattle.asm_faults.specs.At.{fault_at}
use Rattle.asm_faults.specs.First.{noted}
use Rattle.asm_faults.specs.DomainFaults.{is_listed}
use Rattle.asm_typing.proofs.parts.undeclared.Given as goal

abbrev pub invariant-items : goal.invariant-items
invariant-items l = l.first ≡ noted l.initial.first (flat_map (λ (name : RawName). if is_listed l.names name.text then [] else fault_at Unknown l.unit name ∷ []) (take l.item-index l.items))
