use Rattle.std.proofs.Common.{sym}
use Rattle.asm_node.proofs.Elements.{uneven}
use Rattle.asm_node.proofs.element.are_arguments.Goals as goal

pub returns-then-numbers-values : goal.returns-then-numbers-values
returns-then-numbers-values c = sym (uneven c.args.domains.now c.args.numbers.now c.args.values.now c.if-numbers-values.true)
