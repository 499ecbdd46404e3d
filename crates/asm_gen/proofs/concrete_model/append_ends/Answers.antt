use Rattle.std.proofs.Common.{codes}
use Rattle.asm_gen.proofs.Further.{written_further}
use Rattle.asm_gen.proofs.concrete_model.append_ends.Goals as goal

pub stations-preserved : goal.stations-preserved
stations-preserved c = written_further (λ _. codes " endif") c.stations._station c.args.text.now c.stations.text c.append_str.new.text c.stations.invariant c.in_ok-append_str.ensures.ok
