-- Parts of what is wrong with bodies, and of what is missing.
use Rattle.std.specs.Prelude.{◌≡◌, ℕ, Bool as Truth, not, ◌&&◌, if◌then◌else◌, List, [], ◌∷◌, ◌++◌, map, Option, Some, None}
use Rattle.std.specs.List.{flat_map}
use Rattle.asm_sign.specs.declared.function.DeclaredDomain as sign
use Rattle.asm_sign.specs.Kind.{is_dynamic}
use Rattle.asm_sign.specs.Vocabulary.{Vocabulary}
use Rattle.asm_node.specs.Values.{is_undef}
use Rattle.asm_tree.specs.declared.term.RawName.{RawName}
use Rattle.asm_tree.specs.declared.term.RawBinder.{RawBinder}
use Rattle.asm_tree.specs.declared.rule.RawRule.{RawRule}
use Rattle.asm_tree.specs.declared.unit.RawDeclaration.{RawDeclaration}
use Rattle.asm_tree.specs.declared.unit.RawDefinition.{RawDefinition}
use Rattle.asm_tree.specs.declared.unit.RawDefinition.TheVariants as definition
use Rattle.asm_tree.specs.declared.unit.RawFunction.{RawFunction}
use Rattle.asm_tree.specs.declared.unit.RawFunctionKind.{RawFunctionKind}
use Rattle.asm_tree.specs.declared.unit.RawMain.{RawMain}
use Rattle.asm_tree.specs.declared.unit.LoadedUnit.{LoadedUnit}
use Rattle.asm_faults.specs.declared.fault.Fault.{Fault}
use Rattle.asm_faults.specs.declared.fault.ModelFault.TheVariants.{NoDefinition}
use Rattle.asm_faults.specs.At.{Name, fault_at}
use Rattle.asm_faults.specs.First.{noted}
use Rattle.asm_faults.specs.Files.{Of, to_list, numbered, named_of, definition_in, rule_in, invariant_in, main_names, DeclaredFunction, function_in}
use Rattle.asm_faults.specs.DomainFaults.{is_listed, repeats}
use Rattle.asm_faults.specs.FunctionFaults.{domain_number, kind_of, number_or_whole}
use Rattle.asm_faults.specs.Terms.{type_named, function_named, binder_faults, within}
use Rattle.asm_faults.specs.Bodies.{RuleHead, rule_faults, of_parameters, function_body_faults, is_defined_by_term, macro_faults, invariant_faults}
use Rattle.asm_typing.specs.declared.given.Given.{Given}
use Rattle.asm_typing.specs.declared.parts.Part.{Part}
use Rattle.asm_typing.specs.declared.parts.Part.TheVariants.{Functions, Rules, Invariants}
use Rattle.asm_typing.specs.Given.{may_be, constant_at}

-- a parameter whose domain isn't the one that stands at its place
abbrev pub parameter_at_faults : List sign.DeclaredDomain → ℕ → RawBinder → Option ℕ → List Fault
parameter_at_faults domains n b None = []
parameter_at_faults domains n b (Some d) = of_parameters (domain_number domains b.domain.text) d n b.domain

-- functions of a unit
abbrev pub functions_of : ℕ → List RawFunction → List (Of RawFunction)
functions_of n fs = map (λ (f : RawFunction). (n, f)) fs

-- what is wrong with a term of a unit that is given for a function
abbrev pub body_in : Vocabulary → Given → ℕ → RawFunction → List Fault
body_in v given n f = function_body_faults v (may_be given) (n, f) (function_named v f.name.text)

-- what is wrong with the body of a rule that has these parameters
abbrev pub macro_body_faults : Vocabulary → List RuleHead → ℕ → List RawBinder → RawRule → List Fault
macro_body_faults v heads n bs r = binder_faults v n bs ++ rule_faults v heads n r (within v n bs [])

-- what is wrong with a definition of a file, by what is looked at
abbrev pub part_faults : Part → Vocabulary → List RuleHead → List Name → Of RawDefinition → List Fault
part_faults Functions v heads declared d = flat_map (λ (p : Of RawFunction). function_body_faults v is_defined_by_term p (function_named v p.1.name.text)) (definition_in d)
part_faults Rules v heads declared d = flat_map (macro_faults v heads) (rule_in d)
part_faults Invariants v heads declared d = flat_map (invariant_faults v declared) (invariant_in d)

-- what the definitions of all files give
abbrev pub over_definitions : {A : Type 0} → (Of RawDefinition → List A) → List LoadedUnit → List A
over_definitions f units = flat_map (λ p. flat_map (λ (d : RawDefinition). f (p.0, d)) p.1.definitions) (numbered units)

-- what the declarations of all files give
abbrev pub over_declarations : {A : Type 0} → (Of RawDeclaration → List A) → List LoadedUnit → List A
over_declarations f units = flat_map (λ p. flat_map (λ (d : RawDeclaration). f (p.0, d)) p.1.declarations) (numbered units)

-- ---- heads of rules

abbrev pub head_in : Vocabulary → RawDefinition → List RuleHead
head_in v (definition.Rule r ps body) = record { name = r.text; types = map (λ (b : RawBinder). type_named v b.domain.text) ps } ∷ []
head_in v d = []

abbrev pub main_heads : List LoadedUnit → List RuleHead
main_heads units = map (λ (p : Of RawMain). record { name = p.1.name.text; types = [] }) (named_of (λ u. to_list u.main) units)

-- ---- names

abbrev pub texts_of : List RawName → List Name
texts_of names = map (λ (x : RawName). x.text) names

abbrev pub texts : List (Of RawName) → List Name
texts names = map (λ (p : Of RawName). p.1.text) names

-- the name of the main rule
abbrev pub main_texts : List LoadedUnit → List Name
main_texts units = texts (named_of main_names units)

-- the first fault so far, and the names so far
pub record Met : Type 0 where
  pub first : Option Fault
  pub names : List Name

-- more names were met, and each that repeats one before it was noted
abbrev pub met : Met → List (Of RawName) → Met
met m names = record { first = noted m.first (repeats m.names names); names = m.names ++ texts names }

abbrev pub met_now : Option Fault → List Name → Met
met_now first names = record { first = first; names = names }

abbrev pub AreMet : Option Fault → List Name → List (Of RawName) → Option Fault → List Name → Type 0
AreMet first names more now later = met_now now later ≡ met (met_now first names) more

-- the name of a function that is given a term
abbrev pub given_name : Of RawDefinition → List (Of RawName)
given_name d = map (λ (p : Of RawFunction). (p.0, p.1.name)) (definition_in d)

-- ---- functions without a definition

abbrev pub needs_definition : List sign.DeclaredDomain → RawFunctionKind → RawName → RawName → Truth
needs_definition domains kind name codomain = not (is_dynamic (kind_of kind)) && is_undef (constant_at domains name.text (number_or_whole domains codomain))

abbrev pub undefined_in : List sign.DeclaredDomain → List Name → DeclaredFunction → List Fault
undefined_in domains defined f = if needs_definition domains f.kind f.name f.codomain && not (is_listed defined f.name.text) then fault_at NoDefinition f.unit f.name ∷ [] else []

abbrev pub undefined_at : List sign.DeclaredDomain → List Name → Of RawDeclaration → List Fault
undefined_at domains defined d = flat_map (undefined_in domains defined) (function_in d)
