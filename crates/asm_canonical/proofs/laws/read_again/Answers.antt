use Rattle.asm_canonical.proofs.Again as again
use Rattle.asm_canonical.proofs.laws.read_again.Goals as goal

pub returns : goal.returns
returns c = again.read_again
