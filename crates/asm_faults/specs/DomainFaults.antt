-- The elements of declared domains, and what is wrong with declared names and with domains.
use Rattle.std.specs.Prelude.{ℕ, Bool as Truth, true, false, ◌&&◌, nat_eq, nat_lt, if◌then◌else◌, ℤ, List, [], ◌∷◌, ◌++◌, map, length, Option, Some, None, bytes_eq, codes}
use Rattle.std.specs.List.{flat_map, filter, find, list_any}
use Rattle.std.specs.Option.{option_map, unwrap_or}
use Rattle.std.specs.Ordering.{int_eq}
use Rattle.asm_domain.specs.Universe.{Universe, Truths, Numbers, Named, numbers_between}
use Rattle.asm_tree.specs.declared.term.RawName.{RawName}
use Rattle.asm_tree.specs.declared.unit.RawInt.{RawInt}
use Rattle.asm_tree.specs.declared.unit.RawDefinition.{RawDefinition}
use Rattle.asm_tree.specs.declared.unit.RawDefinition.TheVariants as definition
use Rattle.asm_tree.specs.declared.unit.RawFunctionKind.{RawFunctionKind}
use Rattle.asm_tree.specs.declared.unit.RawFunctionKind.TheVariants as function_kind
use Rattle.asm_tree.specs.declared.unit.LoadedUnit.{LoadedUnit}
use Rattle.asm_faults.specs.declared.fault.ModelFault.TheVariants.{Duplicate, Unknown, WrongKind, EmptyDomain, DomainTooLarge, NoDefinition}
use Rattle.asm_faults.specs.declared.fault.Fault.{Fault}
use Rattle.asm_faults.specs.At.{Name, fault_at, token}
use Rattle.asm_faults.specs.Files.{Of, all_of, DomainForm, Enumerated, Part, Abstract, DeclaredDomain, domains, domain_named, has_name, DeclaredFunction, functions, declared_names}

-- ---- declared names

abbrev pub boolean : Name
boolean = codes "Boolean"

abbrev pub integer : Name
integer = codes "Integer"

abbrev pub is_listed : List Name → Name → Truth
is_listed names name = list_any (λ other. bytes_eq other name) names

-- each name that stands earlier, or is one of those before
abbrev pub repeats : List Name → List (Of RawName) → List Fault
repeats earlier [] = []
repeats earlier ((n, name) ∷ names) = (if is_listed earlier name.text then fault_at Duplicate n name ∷ [] else []) ++ repeats (earlier ++ name.text ∷ []) names

-- a name is declared twice; the two domains that are always there count as declared first
abbrev pub name_faults : List LoadedUnit → List Fault
name_faults units = repeats (boolean ∷ integer ∷ []) (declared_names units)

-- ---- definitions of domains

pub data Numerals : Type 0 where
  Range : (low high : RawInt) → Numerals
  Listing : (numbers : List RawInt) → Numerals

-- a definition of a domain
pub record DomainDefinition : Type 0 where
  pub unit : ℕ
  pub name : RawName
  pub numerals : Numerals

abbrev pub domain_definition_in : Of RawDefinition → List DomainDefinition
domain_definition_in (n, definition.Range d low high) = record { unit = n; name = d; numerals = Range low high } ∷ []
domain_definition_in (n, definition.List d xs) = record { unit = n; name = d; numerals = Listing xs } ∷ []
domain_definition_in (n, d) = []

abbrev pub domain_definitions : List LoadedUnit → List DomainDefinition
domain_definitions units = flat_map domain_definition_in (all_of (λ u. u.definitions) units)

-- the first definition of the domain of this name
abbrev pub definition_of_domain : List LoadedUnit → Name → Option DomainDefinition
definition_of_domain units text = find (λ d. has_name text d.name) (domain_definitions units)

abbrev pub numbers_of : Numerals → List ℤ
numbers_of (Range low high) = numbers_between low.value high.value
numbers_of (Listing xs) = map (λ (x : RawInt). x.value) xs

-- ---- the elements

abbrev pub is_constant_of : Name → DeclaredFunction → Truth
is_constant_of domain f = is_constant f.kind f.domains && has_name domain f.codomain
  where
    is_constant : RawFunctionKind → List RawName → Truth
    is_constant function_kind.Static [] = true
    is_constant _ _ = false

-- the names of the static functions without arguments whose codomain the domain is
abbrev pub constants_of : List LoadedUnit → Name → List Name
constants_of units domain = map (λ (f : DeclaredFunction). f.name.text) (filter (is_constant_of domain) (functions units))

-- the truth values have the number 0, and the declared domains the numbers from 1 on
abbrev pub universe_of : List LoadedUnit → ℕ → DeclaredDomain → Universe
universe_of units number d = by_form d.form
  where
    by_form : DomainForm → Universe
    by_form (Enumerated es) = Named number (map (λ (e : RawName). e.text) es)
    by_form (Part base) = Numbers (unwrap_or (option_map (λ (x : DomainDefinition). numbers_of x.numerals) (definition_of_domain units d.name.text)) [])
    by_form Abstract = Named number (constants_of units d.name.text)

abbrev pub count_in : Universe → ℕ
count_in Truths = 2
count_in (Numbers numbers) = length numbers
count_in (Named number names) = length names

-- ---- what is wrong with a definition of a domain

abbrev pub is_part : DomainForm → Truth
is_part (Part base) = true
is_part form = false

-- it has to be declared as a part of another domain
abbrev pub declared_target_faults : DomainDefinition → Option DeclaredDomain → List Fault
declared_target_faults d None = fault_at Unknown d.unit d.name ∷ []
declared_target_faults d (Some e) = if is_part e.form then [] else fault_at WrongKind d.unit d.name ∷ []

abbrev pub target_faults : List LoadedUnit → DomainDefinition → List Fault
target_faults units d =
    if is_listed (boolean ∷ integer ∷ []) d.name.text then fault_at WrongKind d.unit d.name ∷ []
    else declared_target_faults d (domain_named units d.name.text)

-- a domain is defined again
abbrev pub definition_repeats : List DomainDefinition → List Fault
definition_repeats ds = repeats [] (map (λ (d : DomainDefinition). (d.unit, d.name)) ds)

-- the numbers that stand earlier in their list
abbrev pub number_repeats : ℕ → List ℤ → List RawInt → List Fault
number_repeats n earlier [] = []
number_repeats n earlier (x ∷ xs) = (if list_any (int_eq x.value) earlier then token Duplicate n x.at x.first ∷ [] else []) ++ number_repeats n (earlier ++ x.value ∷ []) xs

abbrev pub numeral_faults : DomainDefinition → List Fault
numeral_faults d = by_numerals d.numerals
  where
    by_numerals : Numerals → List Fault
    by_numerals (Range low high) = []
    by_numerals (Listing xs) = number_repeats d.unit [] xs

-- ---- what is wrong with a declared domain

abbrev pub size_faults : List LoadedUnit → DeclaredDomain → List Fault
size_faults units d =
    let count = count_in (universe_of units 0 d) in
    if nat_eq count 0 then fault_at EmptyDomain d.unit d.name ∷ []
    else (if nat_lt 256 count then fault_at DomainTooLarge d.unit d.name ∷ [] else [])

-- what is wrong with a part, of which this is the first definition
abbrev pub part_faults : List LoadedUnit → DeclaredDomain → Option DomainDefinition → List Fault
part_faults units d None = fault_at NoDefinition d.unit d.name ∷ []
part_faults units d (Some e) = size_faults units d

-- a part has to be one of the whole numbers and to have a definition
abbrev pub declaration_faults : List LoadedUnit → DeclaredDomain → List Fault
declaration_faults units d = by_form d.form
  where
    by_form : DomainForm → List Fault
    by_form (Enumerated es) = size_faults units d
    by_form (Part base) = (if has_name integer base then [] else fault_at WrongKind d.unit base ∷ []) ++ part_faults units d (definition_of_domain units d.name.text)
    by_form Abstract = size_faults units d

abbrev pub domain_faults : List LoadedUnit → List Fault
domain_faults units =
    definition_repeats (domain_definitions units)
    ++ (flat_map (declaration_faults units) (domains units)
    ++ flat_map (λ d. target_faults units d ++ numeral_faults d) (domain_definitions units))
