use Rattle.asm_script.proofs.Making.{condition_made}
use Rattle.asm_script.proofs.conditions.condition_node.Goals as goal

pub returns : goal.returns
returns c = condition_made _ c.args.known.now c.args.raw.now _ c.in_ok-node.ensures.made
