use Rattle.std.proofs.Common.{◌≡◌, take}
use Rattle.std.specs.Prelude.{map}
use Rattle.asm_ranges.specs.Spreads.{bounds_of}
use Rattle.asm_ranges.specs.Spreading.{spread_of}
use Rattle.asm_ranges.proofs.intervals.spreads_of.Given as goal

abbrev pub invariant-domains : goal.invariant-domains
invariant-domains l = map bounds_of l.spreads ≡ map spread_of (take l.declared-index l.domains)
