use Rattle.std.proofs.Common.{[]}
use Rattle.asm_build.proofs.rule_nodes.no_rule.Goals as goal

pub returns-clause-pool : goal.returns-clause-pool
returns-clause-pool c = (c.in_ok-make.ensures.made []).is_of_pool
