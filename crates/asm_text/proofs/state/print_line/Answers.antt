use Rattle.asm_source.proofs.Appending.{appends_front, appends_after}
use Rattle.asm_text.proofs.Pieces.{ends}
use Rattle.asm_text.proofs.state.print_line.Goals as goal

pub returns-in_err-print_entry : goal.returns-in_err-print_entry
returns-in_err-print_entry c = ends _ _ _ _ _ c.from_residual.ensures.1 (appends_front _ _ _ _ c.in_err-print_entry.ensures.err)

pub returns : goal.returns
returns c = appends_after _ _ _ _ _ _ c.in_ok-print_entry.ensures.ok c.append_str.ensures
