use Rattle.std.proofs.Common.{◌≡◌, [], ◌∷◌, drop, if◌then◌else◌}
use Rattle.std.specs.List.{flat_map}
use Rattle.asm_tree.specs.declared.term.RawBinder.{RawBinder}
use Rattle.asm_faults.specs.declared.fault.ModelFault.TheVariants.{WrongKind}
use Rattle.asm_faults.specs.At.{fault_at}
use Rattle.asm_faults.specs.First.{noted}
use Rattle.asm_faults.specs.Files.{has_name}
use Rattle.asm_faults.specs.DomainFaults.{integer}
use Rattle.asm_typing.proofs.binders.infinite_faults.Given as goal

abbrev pub invariant-items : goal.invariant-items
invariant-items l =
    noted l.first (flat_map (λ (b : RawBinder). if has_name integer b.domain then fault_at WrongKind l.unit b.domain ∷ [] else []) (drop l.item-index l.items))
    ≡ noted l.initial.first (flat_map (λ (b : RawBinder). if has_name integer b.domain then fault_at WrongKind l.unit b.domain ∷ [] else []) l.items)
