-- Whether two values are equal, as their type tells it.
use Rattle.std.proofs.Common.{◌≡◌, true, false, Decides, refl, sym, ap, ◌∙◌}
use Rattle.asm_domain.specs.declared.value.Value.{Value}
use Rattle.asm_domain.specs.declared.value.Value.TheVariants.{Undef, Bool, Int, Elem}
use Rattle.asm_domain.specs.contracts.value.ValuePartialEq.TheImpl.{eq-value}
use Rattle.asm_node.specs.Values.{same}
use Rattle.asm_node.proofs.Sameness.{same_is, same_itself}

derived : (a b : Value) → eq-value.it a b ≡ same a b
derived Undef Undef = refl
derived Undef (Bool q) = refl
derived Undef (Int y) = refl
derived Undef (Elem e l) = refl
derived (Bool p) Undef = refl
derived (Bool true) (Bool true) = refl
derived (Bool true) (Bool false) = refl
derived (Bool false) (Bool true) = refl
derived (Bool false) (Bool false) = refl
derived (Bool p) (Int y) = refl
derived (Bool p) (Elem e l) = refl
derived (Int x) Undef = refl
derived (Int x) (Bool q) = refl
derived (Int x) (Int y) = refl
derived (Int x) (Elem e l) = refl
derived (Elem d k) Undef = refl
derived (Elem d k) (Bool q) = refl
derived (Elem d k) (Int y) = refl
derived (Elem d k) (Elem e l) = refl

pub decides : (a b : Value) → Decides (eq-value.it a b) (a ≡ b)
decides a b = (λ e. same_is a b (sym (derived a b) ∙ e), λ e. derived a b ∙ ap (same a) (sym e) ∙ same_itself a)
