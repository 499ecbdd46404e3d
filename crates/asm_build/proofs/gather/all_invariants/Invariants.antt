use Rattle.std.proofs.Common.{map, take, flat_map}
use Rattle.asm_tree.specs.declared.unit.RawInvariant.{RawInvariant}
use Rattle.asm_tree.specs.declared.unit.RawUnit.{RawUnit}
use Rattle.asm_faults.specs.Files.{Of, invariant_in, all_of}
use Rattle.asm_faults.specs.Model.{tree_of}
use Rattle.asm_build.specs.Added.{AddsTerms}
use Rattle.asm_build.proofs.gather.all_invariants.Given as goal

abbrev pub invariant-units : goal.invariant-units
invariant-units l = AddsTerms l.fn.maker l.maker (λ number. map (λ (p : Of RawInvariant). tree_of number l.fn.known p.1.term) (flat_map invariant_in (all_of (λ (u : RawUnit). u.definitions) (take l.unit-index l.units)))) l.fn.invariants l.invariants
