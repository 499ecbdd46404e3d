-- What a bound variable is in the definitions.
use Rattle.asm_faults.specs.Ranges.{Spreading}
use Rattle.asm_ranges.specs.declared.scope.Variable.{Variable}
use Rattle.asm_ranges.specs.Spreads.{bounds_of}

abbrev pub bound_of : Variable → Spreading
bound_of v = record { name = v.name; spread = bounds_of v.spread }
