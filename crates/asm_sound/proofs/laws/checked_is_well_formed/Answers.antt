use Rattle.asm_sound.proofs.RangedModel.{model_formed}
use Rattle.asm_sound.proofs.laws.checked_is_well_formed.Goals as goal

pub returns : goal.returns
returns c = λ number units numbering few none. model_formed number units numbering few none
