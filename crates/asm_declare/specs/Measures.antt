-- How many elements domains have, as it is kept in tables.
use Rattle.std.specs.Prelude.{◌≡◌, ℕ, min, Bool as Truth, true, false, nat_eq, nat_lt, if◌then◌else◌, List, [], ◌∷◌, ◌++◌, map, length, Option, Some, None, slice_get}
use Rattle.std.specs.List.{flat_map}
use Rattle.name_table.specs.Numbered.{number_of}
use Rattle.asm_tree.specs.declared.term.RawName.{RawName}
use Rattle.asm_tree.specs.declared.unit.RawDeclaration.{RawDeclaration}
use Rattle.asm_tree.specs.declared.unit.RawFunctionKind.{RawFunctionKind}
use Rattle.asm_tree.specs.declared.unit.RawFunctionKind.TheVariants as function_kind
use Rattle.asm_tree.specs.declared.unit.RawDefinition.{RawDefinition}
use Rattle.asm_tree.specs.declared.unit.LoadedUnit.{LoadedUnit}
use Rattle.asm_faults.specs.declared.fault.Fault.{Fault}
use Rattle.asm_faults.specs.declared.fault.ModelFault.TheVariants.{EmptyDomain, DomainTooLarge, NoDefinition}
use Rattle.asm_faults.specs.At.{Name, fault_at}
use Rattle.asm_faults.specs.First.{noted}
use Rattle.asm_faults.specs.Files.{Of, DeclaredDomain, domain_in, domains, DeclaredFunction, function_in}
use Rattle.asm_faults.specs.DomainFaults.{DomainDefinition, domain_definition_in, domain_definitions, numbers_of, universe_of, count_in, is_part, declaration_faults}
use Rattle.asm_declare.specs.declared.tables.Measure.{Measure}
use Rattle.asm_declare.specs.Entered.{AreEntered}

-- the number, or 4,097 for all greater ones
abbrev pub capped : ℕ → ℕ
capped n = min n 4097

-- the value at a place, where there is one
abbrev pub value_at : {A : Type 0} → List A → Option ℕ → Option A
value_at values None = None
value_at values (Some place) = slice_get values place

-- the value at the first place of a name
abbrev pub found : {A : Type 0} → List Name → List A → Name → Option A
found names values text = value_at values (number_of names text)

-- the function's values are told by a term or by its name
abbrev pub is_static : RawFunctionKind → Truth
is_static function_kind.Static = true
is_static kind = false

-- ---- what items of the unit of a number declare

abbrev pub domains_in : ℕ → List RawDeclaration → List DeclaredDomain
domains_in n ds = flat_map (λ d. domain_in (n, d)) ds

abbrev pub functions_in : ℕ → List RawDeclaration → List DeclaredFunction
functions_in n ds = flat_map (λ d. function_in (n, d)) ds

abbrev pub definitions_in : ℕ → List RawDefinition → List DomainDefinition
definitions_in n ds = flat_map (λ d. domain_definition_in (n, d)) ds

-- ---- definitions of domains

abbrev pub defined_name : DomainDefinition → Of RawName
defined_name d = (d.unit, d.name)

abbrev pub defined_size : DomainDefinition → ℕ
defined_size d = capped (length (numbers_of d.numerals))

-- these definitions came behind others
pub record AreDefined (first : Option Fault) (earlier : List Name) (sizes : List ℕ) (ds : List DomainDefinition) (now : Option Fault) (later : List Name) (after : List ℕ) : Type 0 where
  pub entered : AreEntered first earlier (map defined_name ds) now later
  pub sizes_are : after ≡ sizes ++ map defined_size ds

-- all definitions by their names
pub record AreDefinitions (units : List LoadedUnit) (names : List Name) (sizes : List ℕ) : Type 0 where
  pub names_are : names ≡ map (λ (d : DomainDefinition). d.name.text) (domain_definitions units)
  pub sizes_are : sizes ≡ map defined_size (domain_definitions units)

-- ---- declared domains

abbrev pub domain_text : DeclaredDomain → Name
domain_text d = d.name.text

abbrev pub measure_of : List LoadedUnit → DeclaredDomain → Measure
measure_of units d = record { is_part = is_part d.form; size = capped (count_in (universe_of units 0 d)) }

-- what is wrong with a domain of so many elements
abbrev pub faults_of_size : ℕ → ℕ → RawName → List Fault
faults_of_size count n name = if nat_eq count 0 then fault_at EmptyDomain n name ∷ [] else (if nat_lt 256 count then fault_at DomainTooLarge n name ∷ [] else [])

-- what is wrong with a part of the whole numbers whose first definition gives so many
abbrev pub faults_of_part : Option ℕ → ℕ → RawName → List Fault
faults_of_part None n name = fault_at NoDefinition n name ∷ []
faults_of_part (Some size) n name = faults_of_size size n name

-- these domains came behind others
pub record AreMeasured (units : List LoadedUnit) (first : Option Fault) (names : List Name) (measures : List Measure) (ds : List DeclaredDomain) (now : Option Fault) (later : List Name) (after : List Measure) : Type 0 where
  pub noted_is : now ≡ noted first (flat_map (declaration_faults units) ds)
  pub names_are : later ≡ names ++ map domain_text ds
  pub measures_are : after ≡ measures ++ map (measure_of units) ds

-- all declared domains by their names
pub record AreMeasures (units : List LoadedUnit) (names : List Name) (measures : List Measure) : Type 0 where
  pub names_are : names ≡ map domain_text (domains units)
  pub measures_are : measures ≡ map (measure_of units) (domains units)
