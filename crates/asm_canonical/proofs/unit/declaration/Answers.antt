use Rattle.std.proofs.Common.{sym}
use Rattle.asm_canonical.proofs.UnitTexts.{enumeration_text}
use Rattle.asm_canonical.proofs.unit.declaration.Goals as goal

pub returns-in_ok-append_str-in-Enumeration-4 : goal.returns-in_ok-append_str-in-Enumeration-4
returns-in_ok-append_str-in-Enumeration-4 c =
    rw (c.in_ok-append_str-in-Enumeration-4.ensures.ok, c.in_ok-names-in-Enumeration.ensures, c.in_ok-append_str-in-Enumeration-3.ensures.ok, c.in_ok-append_str-in-Enumeration-2.ensures.ok, c.in_ok-append_str-in-Enumeration.ensures.ok, c.text.ensures, c.slice.ensures, c.in-Enumeration.is)
    (sym (enumeration_text c.in-Enumeration.domain c.in-Enumeration.elements c.args.text.now))
