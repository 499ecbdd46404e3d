use Rattle.std.proofs.Common.{map, refl, ap}
use Rattle.asm_tree.specs.declared.unit.RawFunction.{RawFunction}
use Rattle.asm_faults.specs.Model.{definition_of}
use Rattle.asm_build.proofs.Growing.{took_all, mapped_more}
use Rattle.asm_build.proofs.Walks.{list_more}
use Rattle.asm_build.proofs.Adding.{added_none, added_same, definitions_on}
use Rattle.asm_build.proofs.gather.add_functions.Goals as goal

pub raws-init : goal.raws-init
raws-init c units n = added_none c.args.maker.now _ c.args.definitions.now (λ number. refl)

pub raws-preserved : goal.raws-preserved
raws-preserved c units n = added_same _ _ (λ number.
    mapped_more (λ (f : RawFunction). definition_of number c.args.known.now units (n, f)) c.args.raws.now c.raws.raw-index c.raw-item.result (list_more c.args.raws.now c.raws.raw-index c.raw-item.result c.raws-test.true c.raw-item.is))
    (definitions_on (c.raws.invariant units n) (c.in_ok-add_function.ensures units n))

pub returns : goal.returns
returns c units n = added_same _ _ (λ number. ap (map (λ (f : RawFunction). definition_of number c.args.known.now units (n, f))) (took_all c.args.raws.now c.raws.raw-index c.raws-test.false)) (c.raws.invariant units n)
