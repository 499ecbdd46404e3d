use Rattle.asm_faults.specs.Ranges.{Between, opposite}
use Rattle.asm_ranges.proofs.Bounds.{of_opposite}
use Rattle.asm_ranges.proofs.spread.opposite.Goals as goal

pub returns-in-Between : goal.returns-in-Between
returns-in-Between c =
    let i = c.in-Between.interval in
    rw c.in-Between.is (c.between.ensures (opposite (Between i.low i.high)) (of_opposite i c.negated.result c.negated.ensures.spans c.negated.ensures.refused))
