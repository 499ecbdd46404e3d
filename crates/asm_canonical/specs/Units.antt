-- The documents of whole files, and their text.
use Rattle.std.specs.Prelude.{ℕ, suc, List, [], ◌∷◌, ◌++◌, map, codes, Option, Some, None, ℤ, pos, negsuc}
use Rattle.std.specs.Fmt.{decimal}
use Rattle.asm_tree.specs.declared.term.RawName.{RawName}
use Rattle.asm_tree.specs.declared.term.RawBinder.{RawBinder}
use Rattle.asm_tree.specs.declared.rule.RawRule.{RawRule}
use Rattle.asm_tree.specs.declared.unit.RawPart.{RawPart}
use Rattle.asm_tree.specs.declared.unit.RawPart.TheVariants as part_of
use Rattle.asm_tree.specs.declared.unit.RawPath.{RawPath}
use Rattle.asm_tree.specs.declared.unit.RawFunctionKind.{RawFunctionKind}
use Rattle.asm_tree.specs.declared.unit.RawFunctionKind.TheVariants as function_kind
use Rattle.asm_tree.specs.declared.unit.RawDeclaration.{RawDeclaration}
use Rattle.asm_tree.specs.declared.unit.RawDeclaration.TheVariants as declaration_of
use Rattle.asm_tree.specs.declared.unit.RawInt.{RawInt}
use Rattle.asm_tree.specs.declared.unit.RawFunction.{RawFunction}
use Rattle.asm_tree.specs.declared.unit.RawInvariant.{RawInvariant}
use Rattle.asm_tree.specs.declared.unit.RawDefinition.{RawDefinition}
use Rattle.asm_tree.specs.declared.unit.RawDefinition.TheVariants as definition_of
use Rattle.asm_tree.specs.declared.unit.RawMain.{RawMain}
use Rattle.asm_tree.specs.declared.unit.RawInit.{RawInit}
use Rattle.asm_tree.specs.declared.unit.RawUnit.{RawUnit}
use Rattle.asm_tree.specs.declared.unit.RawUnitKind.{RawUnitKind}
use Rattle.asm_tree.specs.declared.unit.RawUnitKind.TheVariants as unit_kind
use Rattle.asm_canonical.specs.Document.{Item, Gap, Line, One, word, spaced, commas, between, parenthesized, arguments, lines, text_in}
use Rattle.asm_canonical.specs.Terms.{whole_term, binder_doc}
use Rattle.asm_canonical.specs.Rules.{rule_doc}

-- ---- paths

abbrev pub part_doc : RawPart → List Item
part_doc part_of.Here = word (codes ".")
part_doc part_of.Above = word (codes "..")
part_doc (part_of.Word w) = word w
part_doc (part_of.Dotted w v) = One w ∷ One (codes ".") ∷ word v

-- each behind `/`
abbrev pub more_parts : List RawPart → List Item
more_parts [] = []
more_parts (p ∷ ps) = One (codes "/") ∷ (part_doc p ++ more_parts ps)

abbrev pub parts_doc : List RawPart → List Item
parts_doc [] = []
parts_doc (p ∷ ps) = part_doc p ++ more_parts ps

unfoldable pub import_doc : RawPath → List Item
import_doc p = spaced (word (codes "import") ∷ parts_doc p.parts ∷ [])

-- ---- declarations

abbrev pub name_doc : RawName → List Item
name_doc n = word n.text

abbrev pub kind_word : RawFunctionKind → List ℕ
kind_word function_kind.Static = codes "static"
kind_word function_kind.Derived = codes "derived"
kind_word function_kind.Controlled = codes "controlled"
kind_word function_kind.Monitored = codes "monitored"
kind_word function_kind.Shared = codes "shared"
kind_word function_kind.Out = codes "out"

-- the elements with ` | ` between them
abbrev pub more_elements : List RawName → List Item
more_elements [] = []
more_elements (e ∷ es) = Gap ∷ One (codes "|") ∷ Gap ∷ One e.text ∷ more_elements es

abbrev pub elements_doc : List RawName → List Item
elements_doc [] = []
elements_doc (e ∷ es) = One e.text ∷ more_elements es

-- the domains of the arguments and the codomain; one domain stands alone
abbrev pub type_doc : List RawName → RawName → List Item
type_doc [] c = name_doc c
type_doc (d ∷ []) c = spaced (name_doc d ∷ word (codes "->") ∷ name_doc c ∷ [])
type_doc (d ∷ e ∷ es) c = spaced ((One (codes "Prod") ∷ parenthesized (commas (map name_doc (d ∷ e ∷ es)))) ∷ word (codes "->") ∷ name_doc c ∷ [])

unfoldable pub declaration_doc : RawDeclaration → List Item
declaration_doc (declaration_of.Enumeration d es) = spaced (word (codes "enum") ∷ word (codes "domain") ∷ name_doc d ∷ word (codes "=") ∷ between (codes "{") (elements_doc es) (codes "}") ∷ [])
declaration_doc (declaration_of.Subset d e) = spaced (word (codes "domain") ∷ name_doc d ∷ word (codes "subsetof") ∷ name_doc e ∷ [])
declaration_doc (declaration_of.Abstract d) = spaced (word (codes "abstract") ∷ word (codes "domain") ∷ name_doc d ∷ [])
declaration_doc (declaration_of.Function k f ds c) = spaced (word (kind_word k) ∷ name_doc f ∷ word (codes ":") ∷ type_doc ds c ∷ [])

-- ---- definitions

-- `-` exactly where it is negative
abbrev pub whole_number : ℤ → List Item
whole_number (pos n) = word (decimal n)
whole_number (negsuc n) = One (codes "-") ∷ word (decimal (suc n))

abbrev pub int_doc : RawInt → List Item
int_doc i = whole_number i.value

abbrev pub parameters_doc : List RawBinder → List Item
parameters_doc ps = arguments (map binder_doc ps)

abbrev pub function_doc : RawFunction → List Item
function_doc f = spaced (word (codes "function") ∷ (One f.name.text ∷ parameters_doc f.parameters) ∷ word (codes "=") ∷ whole_term f.term ∷ [])

abbrev pub invariant_name : Option RawName → List (List Item)
invariant_name None = []
invariant_name (Some n) = name_doc n ∷ []

unfoldable pub invariant_doc : RawInvariant → List Item
invariant_doc i = spaced (word (codes "invariant") ∷ (invariant_name i.name ++ (word (codes "over") ∷ commas (map name_doc i.over) ∷ word (codes ":") ∷ whole_term i.term ∷ [])))

-- a macro rule with its parameters
abbrev pub macro_doc : RawName → List RawBinder → RawRule → List Item
macro_doc r ps y = spaced (word (codes "rule") ∷ (One r.text ∷ parameters_doc ps) ∷ (One (codes "=") ∷ Line 2 ∷ rule_doc y 2) ∷ [])

abbrev pub domain_doc : RawName → List Item → List Item
domain_doc d numbers = spaced (word (codes "domain") ∷ name_doc d ∷ word (codes "=") ∷ between (codes "{") numbers (codes "}") ∷ [])

unfoldable pub definition_doc : RawDefinition → List Item
definition_doc (definition_of.Range d low high) = domain_doc d (int_doc low ++ (One (codes "..") ∷ int_doc high))
definition_doc (definition_of.List d xs) = domain_doc d (commas (map int_doc xs))
definition_doc (definition_of.Function f) = function_doc f
definition_doc (definition_of.Rule r ps y) = macro_doc r ps y
definition_doc (definition_of.Invariant i) = invariant_doc i

-- ---- units

unfoldable pub main_doc : Option RawMain → List Item
main_doc None = []
main_doc (Some m) = Line 0 ∷ spaced (word (codes "main") ∷ word (codes "rule") ∷ name_doc m.name ∷ (One (codes "=") ∷ Line 1 ∷ rule_doc m.rule 1) ∷ [])

unfoldable pub init_doc : Option RawInit → List Item
init_doc None = []
init_doc (Some i) = Line 0 ∷ spaced (word (codes "default") ∷ word (codes "init") ∷ (One i.name.text ∷ One (codes ":") ∷ lines 1 (map function_doc i.functions)) ∷ [])

abbrev pub unit_word : RawUnitKind → List ℕ
unit_word unit_kind.Asm = codes "asm"
unit_word unit_kind.Module = codes "module"

-- the imports, the declarations and the definitions
unfoldable pub content_doc : RawUnit → List Item
content_doc u = lines 0 (map import_doc u.imports)
    ++ (Line 0 ∷ One (codes "signature") ∷ One (codes ":") ∷ (lines 1 (map declaration_doc u.declarations)
    ++ (Line 0 ∷ One (codes "definitions") ∷ One (codes ":") ∷ lines 1 (map definition_doc u.definitions))))

abbrev pub unit_doc : RawUnit → List Item
unit_doc u = spaced (word (unit_word u.kind) ∷ (One u.name.text ∷ (content_doc u ++ (main_doc u.main ++ init_doc u.init))) ∷ [])

-- the canonical text, whose last line ends too
unfoldable pub canonical : RawUnit → List ℕ
canonical u = text_in (unit_doc u) ++ codes "\n"
