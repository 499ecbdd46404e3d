use Rattle.std.proofs.Common.{◌∙◌}
use Rattle.asm_faults.specs.First.{noted}
use Rattle.asm_faults.specs.Ranges.{range_faults}
use Rattle.asm_ranges.proofs.Parts.{noted_parts}
use Rattle.asm_ranges.proofs.files.ranges.Goals as goal

pub returns : goal.returns
returns c =
    noted_parts c.in_ok-known.known c.slice-files.result.now _ _ _ _ _ _ c.in_ok-definitions.ensures c.in_ok-definitions-2.ensures c.in_ok-main_rule.ensures c.in_ok-definitions-3.ensures c.in_ok-initials.ensures
    ∙ (λ i. noted c.args.first.now (range_faults (c.in_ok-known.ensures i) (c.slice-files.ensures i)))
