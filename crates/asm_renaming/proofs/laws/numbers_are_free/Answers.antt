use Rattle.asm_renaming.proofs.Coding.{coding}
use Rattle.asm_renaming.proofs.Meanings.{numberings_agree}
use Rattle.asm_renaming.proofs.laws.numbers_are_free.Goals as goal

pub returns-clause-codes : goal.returns-clause-codes
returns-clause-codes c = coding

pub returns-clause-free : goal.returns-clause-free
returns-clause-free c = λ units number other numbering other_numbering. numberings_agree units number other numbering other_numbering
