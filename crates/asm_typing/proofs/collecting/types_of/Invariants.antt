use Rattle.std.proofs.Common.{◌≡◌, take, map}
use Rattle.asm_tree.specs.declared.term.RawBinder.{RawBinder}
use Rattle.asm_faults.specs.Terms.{type_named}
use Rattle.asm_typing.proofs.collecting.types_of.Given as goal

abbrev pub invariant-items : goal.invariant-items
invariant-items l = l.types ≡ map (λ (b : RawBinder). type_named l.known b.domain.text) (take l.item-index l.items)
