use Rattle.std.proofs.Common.{sym}
use Rattle.asm_canonical.proofs.UnitTexts.{content_text}
use Rattle.asm_canonical.proofs.unit.content.Goals as goal

pub returns : goal.returns
returns c =
    rw (c.in_ok-definitions.ensures, c.in_ok-append_str-2.ensures.ok, c.in_ok-declarations.ensures, c.in_ok-append_str.ensures.ok, c.in_ok-imports.ensures, c.slice.ensures, c.slice-2.ensures, c.slice-3.ensures) (sym (content_text c.args.unit.now c.args.text.now))
