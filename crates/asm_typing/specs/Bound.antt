-- What a bound variable is in the definitions.
use Rattle.asm_faults.specs.Terms.{Bound}
use Rattle.asm_typing.specs.declared.scope.Variable.{Variable}

abbrev pub bound_of : Variable → Bound
bound_of v = record { name = v.name; type = v.kind }
