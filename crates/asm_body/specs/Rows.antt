-- What a table says of a kind of token.
use Rattle.std.specs.Prelude.{ℕ, List, [], ◌∷◌, ◌==◌, if◌then◌else◌}
use Rattle.asm_tree.specs.Words.{kind_of}
use Rattle.asm_tree.specs.declared.class.Class.{Class}
use Rattle.asm_tree.specs.declared.operator.Op.{Op}
use Rattle.asm_tree.specs.declared.operator.Op.TheVariants.{Max}

abbrev pub op_in : List (Class × Op) → ℕ → Op
op_in [] k = Max
op_in (row ∷ rows) k = if k == kind_of row.0 then row.1 else op_in rows k
