use Rattle.asm_source.proofs.Appending.{appends_front, appends_back, appends_after}
use Rattle.std.specs.Prelude.{codes}
use Rattle.std.specs.Fmt.{decimal}
use Rattle.asm_text.proofs.Pieces.{ends, along, spot_is}
use Rattle.asm_text.proofs.place.print_spot.Goals as goal

pub returns-in_err-append_str : goal.returns-in_err-append_str
returns-in_err-append_str c = along _ _ _ _ _ (spot_is c.args.name.now (codes ":") (decimal c.args.spot.line) (decimal c.args.spot.column)) (ends _ _ _ _ _ c.from_residual.ensures.1 (appends_front _ _ _ _ c.in_err-append_str.ensures.err))

pub returns-in_err-append_str-2 : goal.returns-in_err-append_str-2
returns-in_err-append_str-2 c = along _ _ _ _ _ (spot_is c.args.name.now (codes ":") (decimal c.args.spot.line) (decimal c.args.spot.column)) (ends _ _ _ _ _ c.from_residual-in_err-append_str-2.ensures.1 (appends_back _ _ _ _ _ c.in_ok-append_str.ensures.ok (appends_front _ _ _ _ c.in_err-append_str-2.ensures.err)))

pub returns-in_err-print_number : goal.returns-in_err-print_number
returns-in_err-print_number c = along _ _ _ _ _ (spot_is c.args.name.now (codes ":") (decimal c.args.spot.line) (decimal c.args.spot.column)) (ends _ _ _ _ _ c.from_residual-in_err-print_number.ensures.1 (appends_back _ _ _ _ _ c.in_ok-append_str.ensures.ok (appends_back _ _ _ _ _ c.in_ok-append_str-2.ensures.ok (appends_front _ _ _ _ c.in_err-print_number.ensures.err))))

pub returns-in_err-append_str-3 : goal.returns-in_err-append_str-3
returns-in_err-append_str-3 c = along _ _ _ _ _ (spot_is c.args.name.now (codes ":") (decimal c.args.spot.line) (decimal c.args.spot.column)) (ends _ _ _ _ _ c.from_residual-in_err-append_str-3.ensures.1 (appends_back _ _ _ _ _ c.in_ok-append_str.ensures.ok (appends_back _ _ _ _ _ c.in_ok-append_str-2.ensures.ok (appends_back _ _ _ _ _ c.in_ok-print_number.ensures.ok (appends_front _ _ _ _ c.in_err-append_str-3.ensures.err)))))

pub returns : goal.returns
returns c = along _ _ _ _ _ (spot_is c.args.name.now (codes ":") (decimal c.args.spot.line) (decimal c.args.spot.column)) (appends_after _ _ _ _ _ _ c.in_ok-append_str.ensures.ok (appends_after _ _ _ _ _ _ c.in_ok-append_str-2.ensures.ok (appends_after _ _ _ _ _ _ c.in_ok-print_number.ensures.ok (appends_after _ _ _ _ _ _ c.in_ok-append_str-3.ensures.ok c.print_number-2.ensures))))
