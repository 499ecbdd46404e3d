use Rattle.asm_canonical.proofs.Again as again
use Rattle.asm_canonical.proofs.laws.canonical_text.Goals as goal

pub returns : goal.returns
returns c = again.canonical_text
