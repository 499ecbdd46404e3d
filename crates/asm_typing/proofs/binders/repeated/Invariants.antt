use Rattle.std.proofs.Common.{◌≡◌, drop, []}
use Rattle.asm_faults.specs.First.{noted}
use Rattle.asm_faults.specs.DomainFaults.{repeats}
use Rattle.asm_faults.specs.Terms.{variables_of}
use Rattle.asm_typing.proofs.binders.repeated.Given as goal

abbrev pub invariant-items : goal.invariant-items
invariant-items l = noted l.first (repeats l.seen (variables_of l.known l.unit (drop l.item-index l.items))) ≡ noted l.initial.first (repeats [] (variables_of l.known l.unit l.items))
