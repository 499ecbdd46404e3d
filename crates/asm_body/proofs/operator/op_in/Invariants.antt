use Rattle.std.proofs.Common.{◌≡◌, drop}
use Rattle.asm_tree.specs.Words.{kind_of}
use Rattle.asm_body.specs.Rows as rows
use Rattle.asm_body.proofs.operator.op_in.Given as goal

abbrev pub invariant-rows : goal.invariant-rows
invariant-rows l = rows.op_in l.table (kind_of l.class) ≡ rows.op_in (drop l.other-index l.table) (kind_of l.class)
