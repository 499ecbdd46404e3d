use Rattle.asm_declare.proofs.Entering.{names_noted}
use Rattle.asm_declare.proofs.naming.names.Goals as goal

pub returns : goal.returns
returns c = names_noted c.args.units.now c.slice-files.result.now c.slice-files.ensures c.in_ok-names.ensures c.in_ok-all_names.ensures c.in_ok-last_name.ensures
