use Rattle.asm_faults.specs.Ranges.{Between, absolute}
use Rattle.asm_ranges.proofs.Bounds.{of_absolute}
use Rattle.asm_ranges.proofs.spread.absolute.Goals as goal

pub returns-in-Between : goal.returns-in-Between
returns-in-Between c =
    let i = c.in-Between.interval in
    rw c.in-Between.is (c.between.ensures (absolute (Between i.low i.high)) (of_absolute i c.absolute.result c.absolute.ensures.spans c.absolute.ensures.refused))
