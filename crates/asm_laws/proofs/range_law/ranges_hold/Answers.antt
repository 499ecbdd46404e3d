use Rattle.asm_node.proofs.Exactly.{is_exact}
use Rattle.asm_laws.proofs.range_law.ranges_hold.Goals as goal

pub returns-clause-exact : goal.returns-clause-exact
returns-clause-exact c = λ w filled ranged t h. is_exact w filled ranged t h
