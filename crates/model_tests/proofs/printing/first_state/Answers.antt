use Rattle.std.proofs.Common.{◌≡◌, Option, Some, None, refl, sym, ◌∙◌}
use Rattle.asm_node.specs.Machine.{has_kind}
use Rattle.asm_sign.specs.Kind.{is_kept}
use Rattle.asm_sign.specs.declared.function.Function.{Function}
use Rattle.asm_sign.specs.Vocabulary.{function_at, kept_of}
use Rattle.model_tests.proofs.printing.first_state.Goals as goal

-- two ways to say that a state keeps the values of a function's locations
kept_is : (f : Option Function) → has_kind is_kept f ≡ kept_of f
kept_is None = refl
kept_is (Some f) = refl

pub print_state-requires : goal.print_state-requires
print_state-requires c = λ slot. c.in_ok-store.ensures.state.slots slot ∙ sym (kept_is (function_at c.args.signature.now slot))
