-- What is at the slot of a location.
use Rattle.std.proofs.Common.{◌≡◌, ℕ, Bool as Truth, true, false, Option, Some, None, if◌then◌else◌, refl, ap, ◌∙◌}
use Rattle.std.specs.Option.{unwrap_or}
use Rattle.std.specs.FinMap.{get}
use Rattle.asm_domain.specs.declared.value.Value.{Value}
use Rattle.asm_domain.specs.declared.value.Value.TheVariants.{Undef}
use Rattle.asm_sign.specs.declared.function.FunKind.{FunKind}
use Rattle.asm_sign.specs.Kind.{is_kept}
use Rattle.asm_node.specs.Term.{World, Gives, given, state_value, input_value}

module _ (w : World) (kind : FunKind) (slot : Option ℕ) where
  pub kept_value : (l : ℕ) (v : Value) → is_kept kind ≡ true → slot ≡ Some l → get w.state l ≡ Some v → (if is_kept kind then state_value w slot else input_value w slot) ≡ Gives v
  kept_value l v kept at has =
      ap (λ b. if b then state_value w slot else input_value w slot) kept ∙ ap (state_value w) at ∙ ap (λ o. Gives (unwrap_or o Undef)) has

  pub asked_value : (l : ℕ) → is_kept kind ≡ false → slot ≡ Some l → (if is_kept kind then state_value w slot else input_value w slot) ≡ given l (get w.input l)
  asked_value l asked at = ap (λ b. if b then state_value w slot else input_value w slot) asked ∙ ap (input_value w) at

  pub absent_value : slot ≡ None → (if is_kept kind then state_value w slot else input_value w slot) ≡ Gives Undef
  absent_value none = ap (λ o. if is_kept kind then state_value w o else input_value w o) none ∙ either (is_kept kind)
    where
      either : (b : Truth) → (if b then state_value w None else input_value w None) ≡ Gives Undef
      either true = refl
      either false = refl
