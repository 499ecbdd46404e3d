-- A model of the program as a record of plain lists and trees.
use Rattle.std.specs.Prelude.{◌≡◌}
use Rattle.asm_node.specs.declared.model.Model.{Model}
use Rattle.asm_node.specs.Machine.{Machine}
use Rattle.asm_node.specs.Parts.{machine_from}
pub use Rattle.asm_node.specs.Parts.{defined_by, macro_by}

abbrev pub machine_of : Model → Machine
machine_of model = machine_from model.signature model.main model.invariants model.initial_terms model.definitions model.rules

-- nothing of a model changes but its pool
pub record DiffersInPool (old new : Model) : Type 0 where
  pub signature : new.signature ≡ old.signature
  pub main : new.main ≡ old.main
  pub invariants : new.invariants ≡ old.invariants
  pub initial_terms : new.initial_terms ≡ old.initial_terms
  pub definitions : new.definitions ≡ old.definitions
  pub rules : new.rules ≡ old.rules
