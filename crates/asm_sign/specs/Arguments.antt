-- The arguments that a function may have.
use Rattle.std.specs.Prelude.{ℕ, List, [], Option, Some, None, slice_get}
use Rattle.asm_domain.specs.declared.value.Value.{Value}
use Rattle.asm_domain.specs.Universe.{elements}
use Rattle.asm_sign.specs.declared.function.DeclaredDomain.{DeclaredDomain}

-- the elements of a domain, where it is declared
abbrev pub elements_of : Option DeclaredDomain → List Value
elements_of (Some declared) = elements declared.domain
elements_of None = []

-- the elements of the domain of a number
abbrev pub elements_at : List DeclaredDomain → ℕ → List Value
elements_at domains number = elements_of (slice_get domains number)
