use Rattle.asm_renaming.proofs.Meanings.{scripts_agree}
use Rattle.asm_renaming.proofs.laws.script_numbers_are_free.Goals as goal

pub returns : goal.returns
returns c = scripts_agree
