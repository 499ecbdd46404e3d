use Rattle.std.proofs.Common.{List, map, refl, ap, flat_map}
use Rattle.asm_tree.specs.declared.unit.RawDefinition.{RawDefinition}
use Rattle.asm_tree.specs.declared.unit.RawInvariant.{RawInvariant}
use Rattle.asm_faults.specs.Files.{Of, invariant_in}
use Rattle.asm_faults.specs.Model.{tree_of}
use Rattle.asm_build.proofs.Growing.{took_all}
use Rattle.asm_build.proofs.Gathering.{mapped_flat}
use Rattle.asm_build.proofs.Adding.{added_none, added_same, terms_on}
use Rattle.asm_build.proofs.gather.add_invariants.Goals as goal

pub raws-init : goal.raws-init
raws-init c n = added_none c.args.maker.now _ c.args.invariants.now (λ number. refl)

pub raws-preserved : goal.raws-preserved
raws-preserved c n = added_same _ _ (λ number.
    mapped_flat (λ (p : Of RawInvariant). tree_of number c.args.known.now p.1.term) (λ (d : RawDefinition). invariant_in (n, d)) c.args.raws.now c.raws.raw-index c.raw-item.result c.raws-test.true c.raw-item.is)
    (terms_on (c.raws.invariant n) (c.in_ok-add_invariant.ensures n))

pub returns : goal.returns
returns c n = added_same _ _ (λ number. ap (λ (ds : List RawDefinition). map (λ (p : Of RawInvariant). tree_of number c.args.known.now p.1.term) (flat_map (λ (d : RawDefinition). invariant_in (n, d)) ds)) (took_all c.args.raws.now c.raws.raw-index c.raws-test.false)) (c.raws.invariant n)
