use Rattle.asm_laws.proofs.Following.{by_more_choices}
use Rattle.asm_laws.proofs.choosing_law.choices_extend.Goals as goal

pub returns : goal.returns
returns c = λ w r u first second given is. by_more_choices w r u first second given is
