use Rattle.std.proofs.Common.{◌≡◌, drop, []}
use Rattle.asm_faults.specs.First.{noted}
use Rattle.asm_faults.specs.DomainFaults.{repeats}
use Rattle.asm_typing.specs.Pieces.{variables_bound}
use Rattle.asm_typing.proofs.term.repeated.Given as goal

abbrev pub invariant-items : goal.invariant-items
invariant-items l = noted l.first (repeats l.seen (variables_bound l.unit (drop l.item-index l.items))) ≡ noted l.initial.first (repeats [] (variables_bound l.unit l.items))
