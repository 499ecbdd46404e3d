use Rattle.asm_source.proofs.Appending.{appends_front, appends_back, appends_after}
use Rattle.asm_text.proofs.Pieces.{ends}
use Rattle.asm_text.proofs.stop.print_stop.Goals as goal

pub returns-in_err-append_str : goal.returns-in_err-append_str
returns-in_err-append_str c = ends _ _ _ _ _ c.from_residual.ensures.1 (appends_front _ _ _ _ c.in_err-append_str.ensures.err)

pub returns-in_err-print_reason : goal.returns-in_err-print_reason
returns-in_err-print_reason c = ends _ _ _ _ _ c.from_residual-in_err-print_reason.ensures.1 (appends_back _ _ _ _ _ c.in_ok-append_str.ensures.ok (appends_front _ _ _ _ c.in_err-print_reason.ensures.err))

pub returns : goal.returns
returns c = appends_after _ _ _ _ _ _ c.in_ok-append_str.ensures.ok (appends_after _ _ _ _ _ _ c.in_ok-print_reason.ensures.ok c.append_str-2.ensures)
