use Rattle.std.proofs.Common.{ap, ◌∙◌}
use Rattle.asm_sign.specs.Kind.{is_kept}
use Rattle.asm_sign.specs.Vocabulary.{function_at}
use Rattle.asm_node.specs.Machine.{has_kind}
use Rattle.model_tests.proofs.evaluation.first_value.Goals as goal

pub get-requires : goal.get-requires
get-requires c = c.in_ok-store.ensures.state.has_kept 0 ∙ ap (λ v. has_kind is_kept (function_at v 0)) c.in_ok-model.ensures
