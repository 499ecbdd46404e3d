use Rattle.std.proofs.Common.{[], refl}
use Rattle.asm_node.specs.Taking.{by_words}
use Rattle.asm_fire.proofs.by_words.fire.Goals as goal

pub returns-clause-outcome : goal.returns-clause-outcome
returns-clause-outcome g c = c.fire_by.ensures.fires by_words [] refl
