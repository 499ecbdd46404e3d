-- The model check: its passes, one after the other, and its first fault.
use Rattle.std.specs.Prelude.{List, [], ◌∷◌, Option}
use Rattle.asm_tree.specs.declared.unit.LoadedUnit.{LoadedUnit}
use Rattle.asm_faults.specs.declared.fault.Fault.{Fault}
use Rattle.asm_faults.specs.First.{first_fault}
use Rattle.asm_faults.specs.DomainFaults.{name_faults, domain_faults}
use Rattle.asm_faults.specs.FunctionFaults.{function_faults, signature_of}
use Rattle.asm_faults.specs.Bodies.{body_faults}
use Rattle.asm_faults.specs.Missing.{missing_faults}
use Rattle.asm_faults.specs.Calls.{call_faults, read_faults}
use Rattle.asm_faults.specs.Ranges.{range_faults}

-- what each pass finds wrong: names, domains, functions, bodies, what is missing, calls, reads, intervals
abbrev pub passes : List LoadedUnit → List (List Fault)
passes units =
    name_faults units
    ∷ domain_faults units
    ∷ function_faults units
    ∷ body_faults (signature_of units) units
    ∷ missing_faults units
    ∷ call_faults (signature_of units) units
    ∷ read_faults (signature_of units) units
    ∷ range_faults (signature_of units) units
    ∷ []

-- the first fault of a model, if anything is wrong with it
abbrev pub model_fault : List LoadedUnit → Option Fault
model_fault units = first_fault (passes units)
