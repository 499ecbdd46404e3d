-- The intervals of elements.
use Rattle.std.specs.Prelude.{List, [], ◌∷◌}
use Rattle.asm_domain.specs.declared.value.Value.{Value}
use Rattle.asm_domain.specs.declared.value.Value.TheVariants.{Undef, Bool, Int, Elem}
use Rattle.asm_faults.specs.Ranges.{Spread, NoNumber, Between, either}

abbrev pub element_spread : Value → Spread
element_spread (Int z) = Between z z
element_spread Undef = NoNumber
element_spread (Bool b) = NoNumber
element_spread (Elem d k) = NoNumber

-- the least interval that holds one and elements
abbrev pub with_elements : Spread → List Value → Spread
with_elements r [] = r
with_elements r (e ∷ es) = with_elements (either r (element_spread e)) es
