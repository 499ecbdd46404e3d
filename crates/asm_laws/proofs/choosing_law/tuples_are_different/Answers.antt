use Rattle.asm_laws.proofs.Differing.{tuples_differ}
use Rattle.asm_laws.proofs.choosing_law.tuples_are_different.Goals as goal

pub returns : goal.returns
returns c = λ m well. tuples_differ m well
