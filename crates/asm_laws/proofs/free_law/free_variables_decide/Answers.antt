use Rattle.asm_laws.proofs.Free.{value_alike}
use Rattle.asm_laws.proofs.free_law.free_variables_decide.Goals as goal

pub returns : goal.returns
returns c = λ w calls t reads other same. value_alike w calls t reads other same
