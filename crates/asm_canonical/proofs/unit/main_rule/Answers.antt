use Rattle.std.proofs.Common.{sym}
use Rattle.asm_canonical.proofs.UnitTexts.{main_text}
use Rattle.asm_canonical.proofs.unit.main_rule.Goals as goal

pub returns : goal.returns
returns c =
    rw (c.in_ok-rule.ensures, c.in_ok-line.ensures, c.in_ok-append_str-3.ensures.ok, c.in_ok-append_str-2.ensures.ok, c.in_ok-append_str.ensures.ok, c.text.ensures, c.in-Some.is) (sym (main_text c.in-Some.main c.args.text.now))
