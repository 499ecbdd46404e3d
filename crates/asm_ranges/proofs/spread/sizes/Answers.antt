use Rattle.asm_faults.specs.Ranges.{Between, sizes}
use Rattle.asm_ranges.proofs.Bounds.{of_sizes}
use Rattle.asm_ranges.proofs.spread.sizes.Goals as goal

pub returns-in-Between : goal.returns-in-Between
returns-in-Between c =
    let i = c.in-Between.interval in
    rw c.in-Between.is (c.between.ensures (sizes (Between i.low i.high)) (of_sizes i c.rest.result c.rest.ensures.spans c.rest.ensures.refused))
