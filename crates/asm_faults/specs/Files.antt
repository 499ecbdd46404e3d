-- What the files of a model declare, in load order.
use Rattle.std.specs.Prelude.{ℕ, suc, Bool as Truth, nat_eq, if◌then◌else◌, List, [], ◌∷◌, ◌++◌, map, length, Option, Some, None, bytes_eq}
use Rattle.std.specs.List.{flat_map, enumerate_from, find}
use Rattle.asm_tree.specs.declared.term.RawName.{RawName}
use Rattle.asm_tree.specs.declared.term.RawBinder.{RawBinder}
use Rattle.asm_tree.specs.declared.rule.RawRule.{RawRule}
use Rattle.asm_tree.specs.declared.unit.RawDeclaration.{RawDeclaration}
use Rattle.asm_tree.specs.declared.unit.RawDeclaration.TheVariants as declaration
use Rattle.asm_tree.specs.declared.unit.RawFunctionKind.{RawFunctionKind}
use Rattle.asm_tree.specs.declared.unit.RawDefinition.{RawDefinition}
use Rattle.asm_tree.specs.declared.unit.RawDefinition.TheVariants as definition
use Rattle.asm_tree.specs.declared.unit.RawFunction.{RawFunction}
use Rattle.asm_tree.specs.declared.unit.RawInvariant.{RawInvariant}
use Rattle.asm_tree.specs.declared.unit.RawMain.{RawMain}
use Rattle.asm_tree.specs.declared.unit.RawUnit.{RawUnit}
use Rattle.asm_tree.specs.declared.unit.LoadedUnit.{LoadedUnit}

abbrev pub to_list : {A : Type 0} → Option A → List A
to_list None = []
to_list (Some a) = a ∷ []

-- the units with their numbers in load order
abbrev pub numbered : List LoadedUnit → List (ℕ × RawUnit)
numbered units = enumerate_from 0 (map (λ u. u.unit) units)

abbrev pub is_named : List LoadedUnit → ℕ → Truth
is_named units n = nat_eq (suc n) (length units)

-- something of a unit
abbrev pub Of : Type 0 → Type 0
Of A = ℕ × A

abbrev pub all_of : {A : Type 0} → (RawUnit → List A) → List LoadedUnit → List (Of A)
all_of f units = flat_map (λ p. map (λ a. (p.0, a)) (f p.1)) (numbered units)

-- the last unit alone has a main rule and initial values that belong to the model
abbrev pub named_of : {A : Type 0} → (RawUnit → List A) → List LoadedUnit → List (Of A)
named_of f units = flat_map (λ p. if is_named units p.0 then map (λ a. (p.0, a)) (f p.1) else []) (numbered units)

-- ---- domains

-- how the elements of a declared domain are told
pub data DomainForm : Type 0 where
  -- by the declaration
  Enumerated : (elements : List RawName) → DomainForm
  -- by a definition, as part of another domain
  Part : (base : RawName) → DomainForm
  -- by the constants of the domain
  Abstract : DomainForm

pub record DeclaredDomain : Type 0 where
  pub unit : ℕ
  pub name : RawName
  pub form : DomainForm

abbrev pub domain_in : Of RawDeclaration → List DeclaredDomain
domain_in (n, declaration.Enumeration d es) = record { unit = n; name = d; form = Enumerated es } ∷ []
domain_in (n, declaration.Subset d base) = record { unit = n; name = d; form = Part base } ∷ []
domain_in (n, declaration.Abstract d) = record { unit = n; name = d; form = Abstract } ∷ []
domain_in (n, declaration.Function kind f ds c) = []

abbrev pub domains : List LoadedUnit → List DeclaredDomain
domains units = flat_map domain_in (all_of (λ u. u.declarations) units)

abbrev pub has_name : List ℕ → RawName → Truth
has_name text name = bytes_eq name.text text

abbrev pub domain_named : List LoadedUnit → List ℕ → Option DeclaredDomain
domain_named units text = find (λ d. has_name text d.name) (domains units)

-- ---- functions

pub record DeclaredFunction : Type 0 where
  pub unit : ℕ
  pub kind : RawFunctionKind
  pub name : RawName
  pub domains : List RawName
  pub codomain : RawName

abbrev pub function_in : Of RawDeclaration → List DeclaredFunction
function_in (n, declaration.Function kind f ds c) = record { unit = n; kind = kind; name = f; domains = ds; codomain = c } ∷ []
function_in (n, d) = []

abbrev pub functions : List LoadedUnit → List DeclaredFunction
functions units = flat_map function_in (all_of (λ u. u.declarations) units)

abbrev pub function_named : List LoadedUnit → List ℕ → Option DeclaredFunction
function_named units text = find (λ f. has_name text f.name) (functions units)

-- ---- rules and definitions

pub record DeclaredRule : Type 0 where
  pub unit : ℕ
  pub name : RawName
  pub parameters : List RawBinder
  pub body : RawRule

abbrev pub rule_in : Of RawDefinition → List DeclaredRule
rule_in (n, definition.Rule r ps body) = record { unit = n; name = r; parameters = ps; body = body } ∷ []
rule_in (n, d) = []

abbrev pub main_in : Of RawMain → DeclaredRule
main_in (n, m) = record { unit = n; name = m.name; parameters = []; body = m.rule }

-- the main rule is a rule without parameters
abbrev pub rules : List LoadedUnit → List DeclaredRule
rules units = flat_map rule_in (all_of (λ u. u.definitions) units) ++ map main_in (named_of (λ u. to_list u.main) units)

abbrev pub rule_named : List LoadedUnit → List ℕ → Option DeclaredRule
rule_named units text = find (λ r. has_name text r.name) (rules units)

abbrev pub definition_in : Of RawDefinition → List (Of RawFunction)
definition_in (n, definition.Function f) = (n, f) ∷ []
definition_in (n, d) = []

abbrev pub definitions : List LoadedUnit → List (Of RawFunction)
definitions units = flat_map definition_in (all_of (λ u. u.definitions) units)

abbrev pub initials : List LoadedUnit → List (Of RawFunction)
initials units = named_of (λ u. flat_map (λ i. i.functions) (to_list u.init)) units

abbrev pub invariant_in : Of RawDefinition → List (Of RawInvariant)
invariant_in (n, definition.Invariant i) = (n, i) ∷ []
invariant_in (n, d) = []

abbrev pub invariants : List LoadedUnit → List (Of RawInvariant)
invariants units = flat_map invariant_in (all_of (λ u. u.definitions) units)

-- ---- declared names

abbrev pub names_in_declaration : RawDeclaration → List RawName
names_in_declaration (declaration.Enumeration d es) = d ∷ es
names_in_declaration (declaration.Subset d base) = d ∷ []
names_in_declaration (declaration.Abstract d) = d ∷ []
names_in_declaration (declaration.Function kind f ds c) = f ∷ []

abbrev pub names_in_definition : RawDefinition → List RawName
names_in_definition (definition.Rule r ps body) = r ∷ []
names_in_definition (definition.Invariant i) = to_list i.name
names_in_definition d = []

abbrev pub names_in : RawUnit → List RawName
names_in u = flat_map names_in_declaration u.declarations ++ flat_map names_in_definition u.definitions

abbrev pub main_names : RawUnit → List RawName
main_names u = map (λ (m : RawMain). m.name) (to_list u.main)

-- the names that files declare, in load order; the main rule's name is the last, since it stands behind all definitions of
-- the last file
abbrev pub declared_names : List LoadedUnit → List (Of RawName)
declared_names units = all_of names_in units ++ named_of main_names units
