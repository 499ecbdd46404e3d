use Rattle.std.proofs.Common.{◌≡◌, drop}
use Rattle.std.specs.Prelude.{map}
use Rattle.asm_faults.specs.Terms.{bound_type, or_bound}
use Rattle.asm_typing.specs.Bound.{bound_of}
use Rattle.asm_typing.proofs.scope.Scope.find.Given as goal

abbrev pub invariant-variables : goal.invariant-variables
invariant-variables l = or_bound (bound_type (map bound_of (drop l.variable-index l.variable-items)) l.name) l.found ≡ bound_type (map bound_of l.variable-items) l.name
