use Rattle.asm_source.proofs.Appending.{appends_front, appends_back, appends_after}
use Rattle.std.specs.Prelude.{codes}
use Rattle.asm_text.specs.Texts.{location_text, value_text}
use Rattle.asm_text.proofs.Pieces.{ends, along, six}
use Rattle.asm_text.proofs.stop.print_clash.Goals as goal

pub returns-in_err-append_str : goal.returns-in_err-append_str
returns-in_err-append_str c = along _ _ _ _ _ (six (codes "clash at ") (location_text c.args.signature.now c.args.slot) (codes ": ") (value_text c.args.signature.now c.args.first.now) (codes " and ") (value_text c.args.signature.now c.args.second.now)) (ends _ _ _ _ _ c.from_residual.ensures.1 (appends_front _ _ _ _ c.in_err-append_str.ensures.err))

pub returns-in_err-print_location : goal.returns-in_err-print_location
returns-in_err-print_location c = along _ _ _ _ _ (six (codes "clash at ") (location_text c.args.signature.now c.args.slot) (codes ": ") (value_text c.args.signature.now c.args.first.now) (codes " and ") (value_text c.args.signature.now c.args.second.now)) (ends _ _ _ _ _ c.from_residual-in_err-print_location.ensures.1 (appends_back _ _ _ _ _ c.in_ok-append_str.ensures.ok (appends_front _ _ _ _ c.in_err-print_location.ensures.err)))

pub returns-in_err-append_str-2 : goal.returns-in_err-append_str-2
returns-in_err-append_str-2 c = along _ _ _ _ _ (six (codes "clash at ") (location_text c.args.signature.now c.args.slot) (codes ": ") (value_text c.args.signature.now c.args.first.now) (codes " and ") (value_text c.args.signature.now c.args.second.now)) (ends _ _ _ _ _ c.from_residual-in_err-append_str-2.ensures.1 (appends_back _ _ _ _ _ c.in_ok-append_str.ensures.ok (appends_back _ _ _ _ _ c.in_ok-print_location.ensures.ok (appends_front _ _ _ _ c.in_err-append_str-2.ensures.err))))

pub returns-in_err-print_value : goal.returns-in_err-print_value
returns-in_err-print_value c = along _ _ _ _ _ (six (codes "clash at ") (location_text c.args.signature.now c.args.slot) (codes ": ") (value_text c.args.signature.now c.args.first.now) (codes " and ") (value_text c.args.signature.now c.args.second.now)) (ends _ _ _ _ _ c.from_residual-in_err-print_value.ensures.1 (appends_back _ _ _ _ _ c.in_ok-append_str.ensures.ok (appends_back _ _ _ _ _ c.in_ok-print_location.ensures.ok (appends_back _ _ _ _ _ c.in_ok-append_str-2.ensures.ok (appends_front _ _ _ _ c.in_err-print_value.ensures.err)))))

pub returns-in_err-append_str-3 : goal.returns-in_err-append_str-3
returns-in_err-append_str-3 c = along _ _ _ _ _ (six (codes "clash at ") (location_text c.args.signature.now c.args.slot) (codes ": ") (value_text c.args.signature.now c.args.first.now) (codes " and ") (value_text c.args.signature.now c.args.second.now)) (ends _ _ _ _ _ c.from_residual-in_err-append_str-3.ensures.1 (appends_back _ _ _ _ _ c.in_ok-append_str.ensures.ok (appends_back _ _ _ _ _ c.in_ok-print_location.ensures.ok (appends_back _ _ _ _ _ c.in_ok-append_str-2.ensures.ok (appends_back _ _ _ _ _ c.in_ok-print_value.ensures.ok (appends_front _ _ _ _ c.in_err-append_str-3.ensures.err))))))

pub returns : goal.returns
returns c = along _ _ _ _ _ (six (codes "clash at ") (location_text c.args.signature.now c.args.slot) (codes ": ") (value_text c.args.signature.now c.args.first.now) (codes " and ") (value_text c.args.signature.now c.args.second.now)) (appends_after _ _ _ _ _ _ c.in_ok-append_str.ensures.ok (appends_after _ _ _ _ _ _ c.in_ok-print_location.ensures.ok (appends_after _ _ _ _ _ _ c.in_ok-append_str-2.ensures.ok (appends_after _ _ _ _ _ _ c.in_ok-print_value.ensures.ok (appends_after _ _ _ _ _ _ c.in_ok-append_str-3.ensures.ok c.print_value-2.ensures)))))
