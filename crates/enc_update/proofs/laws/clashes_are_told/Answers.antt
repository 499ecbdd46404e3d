use Rattle.enc_update.proofs.Telling.{clash_told}
use Rattle.enc_update.proofs.laws.clashes_are_told.Goals as goal

pub returns : goal.returns
returns c = λ v u groups distinct means. clash_told v u groups distinct means
