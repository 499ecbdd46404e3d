use Rattle.std.proofs.Common.{◌∙◌}
use Rattle.std.proofs.Common.{◌&&◌}
use Rattle.std.specs.Prelude.{not}
use Rattle.asm_sign.specs.Kind.{is_dynamic}
use Rattle.asm_faults.specs.FunctionFaults.{kind_of}
use Rattle.asm_node.specs.Values.{is_undef}
use Rattle.asm_typing.specs.Given.{constant_at}
use Rattle.asm_typing.proofs.missing_pass.is_needed.Goals as goal

pub returns : goal.returns
returns c =
    c.is_static_and.ensures
    ∙ (λ j. not (c.is_dynamic-dynamic.ensures j) && c.is_free-free.ensures j)
    ∙ (λ j. not (is_dynamic (kind_of c.args.kind)) && is_undef (constant_at (c.requires j) c.args.name.now.text (c.number_or_whole.ensures j)))
