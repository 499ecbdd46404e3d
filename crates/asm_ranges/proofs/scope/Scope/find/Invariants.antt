use Rattle.std.proofs.Common.{◌≡◌, drop}
use Rattle.std.specs.Prelude.{map}
use Rattle.asm_faults.specs.Ranges.{bound_spread, spread_or_none}
use Rattle.asm_ranges.specs.Spreads.{bounds_of}
use Rattle.asm_ranges.specs.Bound.{bound_of}
use Rattle.asm_ranges.proofs.Scopes.{spread_or}
use Rattle.asm_ranges.proofs.scope.Scope.find.Given as goal

abbrev pub invariant-variables : goal.invariant-variables
invariant-variables l = spread_or (bound_spread (map bound_of (drop l.variable-index l.variable-items)) l.name) (bounds_of l.found) ≡ spread_or_none (bound_spread (map bound_of l.variable-items) l.name)
