use Rattle.std.proofs.Common.{List, map, refl, ap, flat_map}
use Rattle.asm_tree.specs.declared.unit.RawDefinition.{RawDefinition}
use Rattle.asm_faults.specs.Files.{rule_in}
use Rattle.asm_faults.specs.Model.{macro_of}
use Rattle.asm_build.proofs.Growing.{took_all}
use Rattle.asm_build.proofs.Gathering.{mapped_flat}
use Rattle.asm_build.proofs.Adding.{added_none, added_same, macros_on}
use Rattle.asm_build.proofs.gather.add_macros.Goals as goal

pub raws-init : goal.raws-init
raws-init c units n known place = added_none c.args.maker.now _ c.args.rules.now (λ number. refl)

pub raws-preserved : goal.raws-preserved
raws-preserved c units n known place = added_same _ _ (λ number.
    mapped_flat (macro_of number c.args.known.now units) (λ (d : RawDefinition). rule_in (n, d)) c.args.raws.now c.raws.raw-index c.raw-item.result c.raws-test.true c.raw-item.is)
    (macros_on (c.raws.invariant units n known place) (c.in_ok-add_macro.ensures units n known place))

pub returns : goal.returns
returns c units n known place = added_same _ _ (λ number. ap (λ (ds : List RawDefinition). map (macro_of number c.args.known.now units) (flat_map (λ (d : RawDefinition). rule_in (n, d)) ds)) (took_all c.args.raws.now c.raws.raw-index c.raws-test.false)) (c.raws.invariant units n known place)
