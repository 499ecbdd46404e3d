use Rattle.std.proofs.Common.{◌+◌, drop, flat_map, Option, ap, ◌∙◌}
use Rattle.asm_tree.specs.declared.unit.RawFunction.{RawFunction}
use Rattle.asm_faults.specs.declared.fault.Fault.{Fault}
use Rattle.asm_faults.specs.First.{noted}
use Rattle.asm_faults.specs.Ranges.{function_faults}
use Rattle.asm_ranges.proofs.Steps.{each_next}
use Rattle.asm_ranges.proofs.files.functions.Goals as goal

pub items-preserved : goal.items-preserved
items-preserved c =
    ap (λ (k : Option Fault). noted k (flat_map (λ (f : RawFunction). function_faults c.args.known.now (c.args.unit, f)) (drop (c.items.item-index + 1) c.args.items.now))) c.in_ok-function.ensures
    ∙ each_next (λ (f : RawFunction). function_faults c.args.known.now (c.args.unit, f)) c.args.items.now c.items.item-index c.item-item.result c.items.first c.items-test.true c.item-item.is
    ∙ c.items.invariant
