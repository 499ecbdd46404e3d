use Rattle.asm_cli.proofs.Numbers.{over-next}
use Rattle.asm_cli.proofs.option.number_of.Goals as goal

pub returns-then-number-limit : goal.returns-then-number-limit
returns-then-number-limit c = over-next c.args.limit c.digits.number _ c.args.digits.now c.digits.byte-index c.from.result c.digits-test.true c.digits.invariant.whole c.from.ensures c.if-number-limit.true
