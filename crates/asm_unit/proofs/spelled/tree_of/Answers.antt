use Rattle.asm_unit.proofs.Faults.{tree_refused}
use Rattle.asm_unit.proofs.spelled.tree_of.Goals as goal

pub returns : goal.returns
returns c = tree_refused c.args.file c.args.text.now c.in_ok-tokens.tokens c.slice-listed.result.now c.in-Err.error c.parse_fault.result c.in_ok-tokens.ensures c.slice-listed.ensures c.in-Err.ensures c.parse_fault.ensures
