use Rattle.asm_sound.proofs.Checking.{checked}
use Rattle.asm_sound.proofs.NoFault.{faultless}
use Rattle.asm_sound.proofs.laws.checks_are_sound.Goals as goal

pub returns-clause-sound : goal.returns-clause-sound
returns-clause-sound c = λ number units numbering few none. checked number units numbering few none

pub returns-clause-faultless : goal.returns-clause-faultless
returns-clause-faultless c = λ units none. faultless units none
