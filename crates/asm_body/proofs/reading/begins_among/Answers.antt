use Rattle.std.proofs.Common.{arith}
use Rattle.asm_body.proofs.WordKinds.{none_ahead}
use Rattle.asm_body.proofs.reading.begins_among.Goals as goal

pub returns-in-empty : goal.returns-in-empty
returns-in-empty c = none_ahead c.args.tokens.now c.args.wanted.now (omega (arith, c.in-empty.len_below))
