-- What is missing in a model.
use Rattle.std.specs.Prelude.{not, ◌&&◌, if◌then◌else◌, List, [], ◌∷◌, ◌++◌, map, Option, Some, None}
use Rattle.std.specs.List.{flat_map}
use Rattle.asm_tree.specs.declared.unit.RawFunction.{RawFunction}
use Rattle.asm_tree.specs.declared.unit.RawMain.{RawMain}
use Rattle.asm_tree.specs.declared.unit.RawInit.{RawInit}
use Rattle.asm_tree.specs.declared.unit.RawUnit.{RawUnit}
use Rattle.asm_tree.specs.declared.unit.LoadedUnit.{LoadedUnit}
use Rattle.asm_faults.specs.declared.fault.Fault.{Fault}
use Rattle.asm_faults.specs.declared.fault.ModelFault.TheVariants.{NoDefinition, NoMain, NoInit}
use Rattle.asm_faults.specs.At.{Name, fault_at}
use Rattle.asm_faults.specs.Files.{Of, named_of, DeclaredFunction, functions, definitions}
use Rattle.asm_faults.specs.DomainFaults.{is_listed}
use Rattle.asm_faults.specs.FunctionFaults.{domains_of, function_of}
use Rattle.asm_faults.specs.Bodies.{is_defined_by_term}

-- the names of the functions that have a definition
abbrev pub defined_names : List LoadedUnit → List Name
defined_names units = map (λ (p : Of RawFunction). p.1.name.text) (definitions units)

-- a static or derived function without a definition, unless it is a constant of an abstract domain
abbrev pub undefined : List LoadedUnit → DeclaredFunction → List Fault
undefined units f =
    if is_defined_by_term (domains_of units) (function_of (domains_of units) f) && not (is_listed (defined_names units) f.name.text) then fault_at NoDefinition f.unit f.name ∷ [] else []

abbrev pub missing_main : Of RawUnit → List Fault
missing_main (n, u) = by_main u.main
  where
    by_main : Option RawMain → List Fault
    by_main None = fault_at NoMain n u.name ∷ []
    by_main (Some m) = []

abbrev pub missing_init : Of RawUnit → List Fault
missing_init (n, u) = by_init u.init
  where
    by_init : Option RawInit → List Fault
    by_init None = fault_at NoInit n u.name ∷ []
    by_init (Some i) = []

-- a definition, or the main rule or the initial values of the file that was named; a module has neither
abbrev pub missing_faults : List LoadedUnit → List Fault
missing_faults units =
    flat_map (undefined units) (functions units)
    ++ flat_map (λ p. missing_main p ++ missing_init p) (named_of (λ u. u ∷ []) units)
