-- What is wrong with a definition of a domain, by the table of the declared domains.
use Rattle.std.specs.Prelude.{ℕ, Bool as Truth, true, false, if◌then◌else◌, List, [], ◌∷◌, ◌++◌, Option, Some, None}
use Rattle.asm_tree.specs.declared.term.RawName.{RawName}
use Rattle.asm_faults.specs.declared.fault.Fault.{Fault}
use Rattle.asm_faults.specs.declared.fault.ModelFault.TheVariants.{Unknown, WrongKind}
use Rattle.asm_faults.specs.At.{Name, fault_at}
use Rattle.asm_faults.specs.DomainFaults.{boolean, integer, is_listed, DomainDefinition, numeral_faults}
use Rattle.asm_declare.specs.declared.tables.Measure.{Measure}
use Rattle.asm_declare.specs.Measures.{found}

-- what is wrong with the domain that is defined, which is always there or not, and of which this is known
abbrev pub faults_of_target : Truth → Option Measure → ℕ → RawName → List Fault
faults_of_target true m n name = fault_at WrongKind n name ∷ []
faults_of_target false None n name = fault_at Unknown n name ∷ []
faults_of_target false (Some m) n name = if m.is_part then [] else fault_at WrongKind n name ∷ []

-- what is wrong with a definition
abbrev pub faults_of_definition : List Name → List Measure → DomainDefinition → List Fault
faults_of_definition names measures d = faults_of_target (is_listed (boolean ∷ integer ∷ []) d.name.text) (found names measures d.name.text) d.unit d.name ++ numeral_faults d
