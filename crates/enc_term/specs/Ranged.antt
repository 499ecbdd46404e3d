-- What stands in the places of variables, by the ranges of their numbers.
use Rattle.std.specs.Prelude.{◌≡◌, ℕ, ◌⊎◌}
use Rattle.asm_domain.specs.declared.value.Value.{Value}
use Rattle.asm_node.specs.Tree.{Tree, Const}
use Rattle.asm_node.specs.Machine.{Machine}
use Rattle.asm_node.specs.Ranges.{Ranges, IsIn, HasRange, no_ranges}
use Rattle.asm_node.specs.Term.{Places}

-- each variable stands for a value of its range, or for a closed term of its range
abbrev pub FitsRanges : Machine → Places → Ranges → Type 0
FitsRanges m e rs = (y : ℕ) → ((v : Value) × (◌≡◌ {A = Tree} (e y) (Const v)) × IsIn (rs y) v) ⊎ HasRange m.signature no_ranges (e y) (rs y)
