use Rattle.std.proofs.Common.{List, map, refl, ap, flat_map}
use Rattle.asm_tree.specs.declared.unit.RawInvariant.{RawInvariant}
use Rattle.asm_tree.specs.declared.unit.RawUnit.{RawUnit}
use Rattle.asm_tree.specs.declared.unit.LoadedUnit.{LoadedUnit}
use Rattle.asm_faults.specs.Files.{Of, invariant_in, all_of}
use Rattle.asm_faults.specs.Model.{tree_of}
use Rattle.asm_build.proofs.Growing.{took_all}
use Rattle.asm_build.proofs.Gathering.{mapped_units}
use Rattle.asm_build.proofs.Adding.{added_none, added_same, terms_on}
use Rattle.asm_build.proofs.gather.all_invariants.Goals as goal

pub units-init : goal.units-init
units-init c = added_none c.args.maker.now _ c.args.invariants.now (λ number. refl)

pub units-preserved : goal.units-preserved
units-preserved c = added_same _ _ (λ number.
    mapped_units (λ (p : Of RawInvariant). tree_of number c.args.known.now p.1.term) invariant_in (λ (u : RawUnit). u.definitions) c.args.units.now c.units.unit-index c.unit-item.result c.slice.result.now c.units-test.true c.unit-item.is c.slice.ensures)
    (terms_on c.units.invariant (c.in_ok-add_invariants.ensures c.units.unit-index))

pub returns : goal.returns
returns c = added_same _ _ (λ number. ap (λ (us : List LoadedUnit). map (λ (p : Of RawInvariant). tree_of number c.args.known.now p.1.term) (flat_map invariant_in (all_of (λ (u : RawUnit). u.definitions) us))) (took_all c.args.units.now c.units.unit-index c.units-test.false)) c.units.invariant
