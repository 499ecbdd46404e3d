-- A number for each name.
use Rattle.std.specs.Prelude.{ℕ, zero, suc, ◌+◌, List, [], ◌∷◌}
use Rattle.asm_node.specs.Machine.{Machine}
use Rattle.asm_tree.specs.declared.unit.LoadedUnit.{LoadedUnit}
use Rattle.asm_faults.specs.At.{Name}
use Rattle.asm_faults.specs.Model.{machine_of}

-- an odd multiple of a power of two
abbrev pub pair : ℕ → ℕ → ℕ
pair zero n = n + n + 1
pair (suc x) n = pair x n + pair x n

-- different names have different codes
abbrev pub code : Name → ℕ
code [] = 0
code (x ∷ xs) = pair x (code xs)

-- the machine that files are, where each variable's number is its name's code
abbrev pub coded_machine : List LoadedUnit → Machine
coded_machine units = machine_of code units
