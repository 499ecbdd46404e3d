-- What is refused in definitions, by what they are definitions of.
use Rattle.std.specs.Prelude.{List, [], map}
use Rattle.std.specs.List.{flat_map}
use Rattle.asm_sign.specs.Vocabulary.{Vocabulary}
use Rattle.asm_tree.specs.declared.unit.RawDefinition.{RawDefinition}
use Rattle.asm_tree.specs.declared.unit.RawDefinition.TheVariants as definition
use Rattle.asm_tree.specs.declared.unit.RawInvariant.{RawInvariant}
use Rattle.asm_tree.specs.declared.unit.LoadedUnit.{LoadedUnit}
use Rattle.asm_faults.specs.declared.fault.Fault.{Fault}
use Rattle.asm_faults.specs.Files.{Of, all_of, named_of, to_list, DeclaredRule, main_in}
use Rattle.asm_faults.specs.Ranges.{within, term_faults, rule_faults, function_faults}
use Rattle.asm_ranges.specs.declared.files.Part.{Part}
use Rattle.asm_ranges.specs.declared.files.Part.TheVariants.{Functions, Rules, Invariants}

abbrev pub function_part : Vocabulary → Of RawDefinition → List Fault
function_part v (n, definition.Function f) = function_faults v (n, f)
function_part v (n, d) = []

abbrev pub rule_part : Vocabulary → Of RawDefinition → List Fault
rule_part v (n, definition.Rule r ps body) = rule_faults v n body (within v ps [])
rule_part v (n, d) = []

abbrev pub invariant_part : Vocabulary → Of RawDefinition → List Fault
invariant_part v (n, definition.Invariant i) = term_faults v n i.term []
invariant_part v (n, d) = []

-- what is refused in a definition, where it is one of the part
abbrev pub part_faults : Part → Vocabulary → Of RawDefinition → List Fault
part_faults Functions = function_part
part_faults Rules = rule_part
part_faults Invariants = invariant_part

abbrev pub all_part_faults : Part → Vocabulary → List LoadedUnit → List Fault
all_part_faults part v units = flat_map (part_faults part v) (all_of (λ u. u.definitions) units)

-- what is refused in a rule
abbrev pub declared_faults : Vocabulary → DeclaredRule → List Fault
declared_faults v r = rule_faults v r.unit r.body (within v r.parameters [])

-- what is refused in an invariant
abbrev pub stated_faults : Vocabulary → Of RawInvariant → List Fault
stated_faults v p = term_faults v p.0 p.1.term []

-- what is refused in the main rule
abbrev pub main_faults : Vocabulary → List LoadedUnit → List Fault
main_faults v units = flat_map (declared_faults v) (map main_in (named_of (λ u. to_list u.main) units))
