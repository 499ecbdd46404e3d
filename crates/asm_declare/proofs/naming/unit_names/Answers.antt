use Rattle.asm_declare.proofs.Entering.{unit_entered}
use Rattle.asm_declare.proofs.naming.unit_names.Goals as goal

pub returns : goal.returns
returns c = unit_entered c.args.number c.args.unit.now c.slice.result.now c.slice-2.result.now c.slice.ensures c.slice-2.ensures c.in_ok-declared.ensures c.in_ok-defined.ensures
