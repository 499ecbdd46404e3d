use Rattle.std.proofs.Common.{◌≡◌, drop, map}
use Rattle.asm_tree.specs.Words.{class_in}
use Rattle.asm_body.proofs.class.class_in.Given as goal

abbrev pub invariant-rows : goal.invariant-rows
invariant-rows l = class_in (map (λ row. (row.0.now, row.1)) l.table) l.text ≡ class_in (map (λ row. (row.0.now, row.1)) (drop l.word-index l.table)) l.text
