use Rattle.asm_laws.proofs.Completing.{completion}
use Rattle.asm_laws.proofs.Differing.{can_be_given}
use Rattle.asm_laws.proofs.full_law.full_inputs_exist.Goals as goal

pub returns-clause-given : goal.returns-clause-given
returns-clause-given c = λ m i input able. completion m i input able

pub returns-clause-formed : goal.returns-clause-formed
returns-clause-formed c = λ m i input well. completion m i input (can_be_given m well)
