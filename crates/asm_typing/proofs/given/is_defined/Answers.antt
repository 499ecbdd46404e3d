use Rattle.std.proofs.Common.{◌&&◌, ◌∙◌}
use Rattle.std.specs.Prelude.{not}
use Rattle.asm_typing.proofs.given.is_defined.Goals as goal

pub returns : goal.returns
returns c = c.is_static_and.ensures ∙ (λ j. not (c.is_dynamic-dynamic.ensures j) && c.is_free-free.ensures j)
