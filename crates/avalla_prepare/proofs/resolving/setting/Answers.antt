use Rattle.std.proofs.Common.{◌∙◌, sym, ap}
use Rattle.asm_sign.specs.Vocabulary.{Vocabulary}
use Rattle.asm_bind.specs.Given.{given_or_name}
use Rattle.avalla_prepare.proofs.Commands.{may_be_set}
use Rattle.avalla_prepare.proofs.resolving.setting.Goals as goal

pub returns-in-Ok-clause-sound : goal.returns-in-Ok-clause-sound
returns-in-Ok-clause-sound c = may_be_set c.args.over.now.script c.args.set.now c.in-Ok.slot c.in-Ok.value (ap (λ (v : Vocabulary). given_or_name v c.args.set.now) (sym c.requires) ∙ c.in-Ok.ensures)
