-- The parts of a model are those of the machine that its files are.
use Rattle.std.specs.Prelude.{◌≡◌, ℕ, List}
use Rattle.asm_sign.specs.Vocabulary.{Vocabulary}
use Rattle.asm_node.specs.Parts.{machine_from}
use Rattle.asm_tree.specs.declared.unit.LoadedUnit.{LoadedUnit}
use Rattle.asm_faults.specs.At.{Name}
use Rattle.asm_faults.specs.Model.{IsNumbering, machine_in}
use Rattle.asm_build.specs.declared.machine.Parts.{Parts}

-- with some numbers of variables, different ones for different names, the parts are the machine of these files
pub record IsMachineOf (v : Vocabulary) (units : List LoadedUnit) (p : Parts) : Type 0 where
  pub number : Name → ℕ
  pub is_numbering : IsNumbering number
  pub is_machine : machine_from v p.main p.invariants p.initial_terms p.definitions p.rules ≡ machine_in number v units
