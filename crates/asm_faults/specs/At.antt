-- Faults at their tokens.
use Rattle.std.specs.Prelude.{ℕ, List}
use Rattle.asm_tree.specs.declared.term.RawName.{RawName}
use Rattle.asm_faults.specs.declared.fault.ModelFault.{ModelFault}
use Rattle.asm_faults.specs.declared.fault.Fault.{Fault}

abbrev pub Name : Type 0
Name = List ℕ

-- a fault at the token of this text that begins at a byte of a unit
abbrev pub token : ModelFault → ℕ → ℕ → Name → Fault
token kind unit at text = record { kind = kind; unit = unit; at = at; name = text }

-- a fault at a name of a unit
abbrev pub fault_at : ModelFault → ℕ → RawName → Fault
fault_at kind unit name = token kind unit name.at name.text
