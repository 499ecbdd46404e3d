use Rattle.std.proofs.Common.{◌≡◌, ◌≤◌, ◌∷◌, drop}
use Rattle.std.specs.Str.Parse.{digits_value, digits_value_after}
use Rattle.asm_lex.specs.Cut.{greatest_number}
use Rattle.asm_lex.proofs.piece.is_too_big.Given as goal

abbrev pub invariant-digits : goal.invariant-digits
invariant-digits l = (digits_value_after 10 l.value (drop l.digit-index l.digits) ≡ digits_value 10 (l.fn.first ∷ l.digits)) × (l.value ≤ greatest_number)
