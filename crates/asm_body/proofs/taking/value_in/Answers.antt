use Rattle.std.proofs.Common.{sym, ◌∙◌}
use Rattle.asm_body.proofs.Valued.{number_digits, has_one}
use Rattle.asm_body.proofs.taking.value_in.Goals as goal

pub value_of-requires-clause-digits : goal.value_of-requires-clause-digits
value_of-requires-clause-digits c = rw c.as_bytes.ensures.value (number_digits c.args.text.now (sym c.requires.class ∙ has_one _ _ (sym c.is.ensures ∙ c.if-is.true)))
