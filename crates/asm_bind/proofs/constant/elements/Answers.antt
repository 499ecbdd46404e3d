use Rattle.std.proofs.Common.{sym}
use Rattle.asm_bind.proofs.Listing.{uneven}
use Rattle.asm_bind.proofs.constant.elements.Goals as goal

pub returns-then-numbers-constants : goal.returns-then-numbers-constants
returns-then-numbers-constants c = sym (uneven c.args.domains.now c.args.numbers.now c.args.constants.now c.if-numbers-constants.true)
