use Rattle.enc_term.proofs.Literals.{literal_tells}
use Rattle.enc_term.proofs.literal_law.literals_tell_values.Goals as goal

pub returns : goal.returns
returns c = λ v g o d means e h. literal_tells v g o d means e h
