use Rattle.asm_laws.proofs.Sites.{sites_of}
use Rattle.asm_laws.proofs.choosing_law.sites_suffice.Goals as goal

pub returns : goal.returns
returns c = λ w r choosing u is. sites_of choosing w r u is
