use Rattle.std.proofs.lemmas.Slice.Eq.{slice_eq-Decides}
use Rattle.asm_fire.proofs.Equals.{decides}
use Rattle.asm_fire.proofs.drawing.same_tuple.Goals as goal

pub returns : goal.returns
returns c = slice_eq-Decides decides c.args.left.now c.args.right.now c.eq.result c.eq.ensures
