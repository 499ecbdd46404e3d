-- Of which functions a term may be given.
use Rattle.std.specs.Prelude.{ℕ, Bool as Truth, List, slice_get}
use Rattle.std.specs.Option.{option_map, unwrap_or}
use Rattle.asm_domain.specs.declared.value.Value.{Value}
use Rattle.asm_domain.specs.declared.value.Value.TheVariants.{Undef}
use Rattle.asm_sign.specs.declared.function.DeclaredDomain.{DeclaredDomain}
use Rattle.asm_sign.specs.declared.function.Function.{Function}
use Rattle.asm_node.specs.Machine.{element_named}
use Rattle.asm_faults.specs.At.{Name}
use Rattle.asm_faults.specs.Bodies.{is_defined_by_term, has_initial}
use Rattle.asm_typing.specs.declared.given.Given.{Given}
use Rattle.asm_typing.specs.declared.given.Given.TheVariants.{Definition, Initial}

-- a term of this sort may be given for a function
abbrev pub may_be : Given → List DeclaredDomain → Function → Truth
may_be Definition = is_defined_by_term
may_be Initial = has_initial

-- the element of a name in the domain of a number
abbrev pub constant_at : List DeclaredDomain → Name → ℕ → Value
constant_at domains name codomain = unwrap_or (option_map (λ d. element_named name d.domain) (slice_get domains codomain)) Undef
