use Rattle.std.proofs.Common.{sym, arith}
use Rattle.asm_lex.proofs.Numbers.{stays_above}
use Rattle.asm_lex.proofs.piece.is_too_big.Goals as goal

pub returns-then-value-gt-GREATEST_NUMBER : goal.returns-then-value-gt-GREATEST_NUMBER
returns-then-value-gt-GREATEST_NUMBER c =
    sym (stays_above c.digits.value c.value_of.result c.args.digits.now c.digits.digit-index _ _ c.digits-test.true c.digits.invariant.0 c.value_of.ensures.value (omega (arith, c.if-value-gt-GREATEST_NUMBER.true)))
