use Rattle.asm_script.proofs.Making.{rule_made}
use Rattle.asm_script.proofs.rules.rule_node.Goals as goal

pub returns : goal.returns
returns c = λ m same named. rule_made _ m c.args.known.now c.args.names.now c.args.file c.args.raw.now _ same named c.in_ok-node.ensures.made
