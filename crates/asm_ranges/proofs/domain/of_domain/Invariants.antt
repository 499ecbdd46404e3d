use Rattle.std.proofs.Common.{◌≡◌, drop}
use Rattle.asm_domain.specs.Universe.{elements}
use Rattle.asm_faults.specs.Ranges.{NoNumber}
use Rattle.asm_ranges.specs.Elements.{with_elements}
use Rattle.asm_ranges.specs.Spreads.{bounds_of}
use Rattle.asm_ranges.proofs.domain.of_domain.Given as goal

abbrev pub invariant-ranks : goal.invariant-ranks
invariant-ranks l = with_elements (bounds_of l.spread) (drop l.rank (elements l.domain)) ≡ with_elements NoNumber (elements l.domain)
