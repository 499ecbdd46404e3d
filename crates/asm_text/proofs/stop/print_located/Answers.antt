use Rattle.asm_source.proofs.Appending.{appends_front, appends_after}
use Rattle.asm_text.proofs.Pieces.{ends}
use Rattle.asm_text.proofs.stop.print_located.Goals as goal

pub returns-in_err-append_str : goal.returns-in_err-append_str
returns-in_err-append_str c = ends _ _ _ _ _ c.from_residual.ensures.1 (appends_front _ _ _ _ c.in_err-append_str.ensures.err)

pub returns : goal.returns
returns c = appends_after _ _ _ _ _ _ c.in_ok-append_str.ensures.ok c.print_location.ensures
