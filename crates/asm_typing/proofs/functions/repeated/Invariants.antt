use Rattle.std.proofs.Common.{◌≡◌, drop, []}
use Rattle.std.specs.Prelude.{map}
use Rattle.asm_tree.specs.declared.unit.RawFunction.{RawFunction}
use Rattle.asm_faults.specs.First.{noted}
use Rattle.asm_faults.specs.DomainFaults.{repeats}
use Rattle.asm_typing.proofs.functions.repeated.Given as goal

abbrev pub invariant-items : goal.invariant-items
invariant-items l =
    noted l.first (repeats l.seen (map (λ (f : RawFunction). (l.unit, f.name)) (drop l.item-index l.items))) ≡ noted l.initial.first (repeats [] (map (λ (f : RawFunction). (l.unit, f.name)) l.items))
