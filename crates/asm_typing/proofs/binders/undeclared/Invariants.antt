use Rattle.std.proofs.Common.{◌≡◌, drop}
use Rattle.std.specs.List.{flat_map}
use Rattle.asm_tree.specs.declared.term.RawBinder.{RawBinder}
use Rattle.asm_faults.specs.First.{noted}
use Rattle.asm_faults.specs.FunctionFaults.{unknown_domain}
use Rattle.asm_typing.proofs.binders.undeclared.Given as goal

abbrev pub invariant-items : goal.invariant-items
invariant-items l = noted l.first (flat_map (λ (b : RawBinder). unknown_domain l.known.domains l.unit b.domain) (drop l.item-index l.items)) ≡ noted l.initial.first (flat_map (λ (b : RawBinder). unknown_domain l.known.domains l.unit b.domain) l.items)
