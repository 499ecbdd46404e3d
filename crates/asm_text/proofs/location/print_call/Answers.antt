use Rattle.std.proofs.Common.{ap, ◌++◌}
use Rattle.asm_source.proofs.Appending.{appends_front, appends_after}
use Rattle.asm_text.specs.Texts.{arguments_text}
use Rattle.asm_text.proofs.Pieces.{ends, along}
use Rattle.asm_text.proofs.location.print_call.Goals as goal

pub returns-in_err-append_str : goal.returns-in_err-append_str
returns-in_err-append_str c =
    along _ _ _ _ _ (ap (λ name. name ++ arguments_text c.args.signature.now c.args.arguments.now) c.function_name.ensures)
    (ends _ _ _ _ _ c.from_residual.ensures.1 (appends_front _ _ _ _ c.in_err-append_str.ensures.err))

pub returns : goal.returns
returns c =
    along _ _ _ _ _ (ap (λ name. name ++ arguments_text c.args.signature.now c.args.arguments.now) c.function_name.ensures)
    (appends_after _ _ _ _ _ _ c.in_ok-append_str.ensures.ok c.print_arguments.ensures)
