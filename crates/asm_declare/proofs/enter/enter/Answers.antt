use Rattle.asm_declare.proofs.Entering.{one_entered}
use Rattle.asm_declare.proofs.enter.enter.Goals as goal

pub returns : goal.returns
returns c = one_entered _ _ _ _ _ _ c.in_ok-note_listed.ensures c.in_ok-add.ensures.ok
