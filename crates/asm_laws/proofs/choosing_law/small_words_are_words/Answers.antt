use Rattle.asm_laws.proofs.Following.{by_words_too}
use Rattle.asm_laws.proofs.choosing_law.small_words_are_words.Goals as goal

pub returns : goal.returns
returns c = λ w r u words rest is. by_words_too w r u words rest is
