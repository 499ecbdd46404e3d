-- The grammar of whole files of models, production by production.
use Rattle.std.specs.Prelude.{ℕ, false, List, [], ◌∷◌, Option, Some, None}
use Rattle.asm_grammar.specs.Grammar.{Grammar, word, nothing, both, either, many, shown, opening}
use Rattle.asm_tree.specs.Words.{kind_of}
use Rattle.asm_tree.specs.declared.class.Class.TheVariants as class
use Rattle.asm_tree.specs.declared.term.RawName.{RawName}
use Rattle.asm_tree.specs.declared.term.RawBinder.{RawBinder}
use Rattle.asm_tree.specs.declared.term.RawTerm.{RawTerm}
use Rattle.asm_tree.specs.declared.rule.RawRule.{RawRule}
use Rattle.asm_tree.specs.declared.unit.RawPart.{RawPart}
use Rattle.asm_tree.specs.declared.unit.RawPart.TheVariants as part_of
use Rattle.asm_tree.specs.declared.unit.RawPath.{RawPath}
use Rattle.asm_tree.specs.declared.unit.RawFunctionKind.{RawFunctionKind}
use Rattle.asm_tree.specs.declared.unit.RawFunctionKind.TheVariants as function_kind
use Rattle.asm_tree.specs.declared.unit.RawDeclaration.{RawDeclaration}
use Rattle.asm_tree.specs.declared.unit.RawDeclaration.TheVariants as declaration_of
use Rattle.asm_tree.specs.declared.unit.RawInt.{RawInt}
use Rattle.asm_tree.specs.declared.unit.RawFunction.{RawFunction}
use Rattle.asm_tree.specs.declared.unit.RawDefinition.{RawDefinition}
use Rattle.asm_tree.specs.declared.unit.RawDefinition.TheVariants as definition_of
use Rattle.asm_tree.specs.declared.unit.RawMain.{RawMain}
use Rattle.asm_tree.specs.declared.unit.RawInit.{RawInit}
use Rattle.asm_tree.specs.declared.unit.RawUnit.{RawUnit}
use Rattle.asm_tree.specs.declared.unit.RawUnitKind.TheVariants as unit_kind
use Rattle.asm_tree.specs.Language.{TokenText, models, token, after, before, name, functions, rules, invariants, elements, domains, words, free_words, Parameters, Product}
use Rattle.asm_tree.specs.Terms.{term}
use Rattle.asm_tree.specs.Rules.{rule, int}

-- ---- paths

-- [ "." Word ]
unfoldable pub ending : Grammar models (Option (List ℕ))
ending = either (shown Some (after class.Dot (shown (λ (t : TokenText). t.text) (word words)))) (nothing [] None)

abbrev pub word_part : TokenText × Option (List ℕ) → TokenText × RawPart
word_part (t, None) = (t, part_of.Word t.text)
word_part (t, Some w) = (t, part_of.Dotted t.text w)

-- part = "." | ".." | Word [ "." Word ], with its first token
unfoldable pub part : Grammar models (TokenText × RawPart)
part =
    either (shown (λ t. (t, part_of.Here)) (token class.Dot))
    (either (shown (λ t. (t, part_of.Above)) (token class.To))
    (shown word_part (both (word words) ending)))

unfoldable pub more_parts : Grammar models (List RawPart)
more_parts = many (after class.Slash (shown (λ p. p.1) part))

abbrev pub path_of : (TokenText × RawPart) × List RawPart → RawPath
path_of p = record { at = p.0.0.at; parts = p.0.1 ∷ p.1 }

-- path = part { "/" part }
unfoldable pub path : Grammar models RawPath
path = shown path_of (both part more_parts)

unfoldable pub imports : Grammar models (List RawPath)
imports = many (after class.Import path)

unfoldable pub more_words : Grammar models (List RawName)
more_words = many (after class.Comma (name words))

-- [ "export" ( "*" | Word { "," Word } ) ], of which the tree keeps nothing
unfoldable pub export : Grammar models (List RawName)
export =
    either (after class.Export (either (shown (λ t. []) (token class.Times)) (shown (λ p. p.0 ∷ p.1) (both (name words) more_words))))
    (nothing [] [])

-- ---- declarations

unfoldable pub more_elements : Grammar models (List RawName)
more_elements = many (shown (λ p. p.1) (both (word (kind_of class.Bar ∷ kind_of class.Comma ∷ [])) (name elements)))

abbrev pub enumeration_of : RawName × (RawName × List RawName) → RawDeclaration
enumeration_of p = declaration_of.Enumeration p.0 (p.1.0 ∷ p.1.1)

-- "enum" "domain" Dom "=" "{" Elem { ("|" | ",") Elem } "}"
unfoldable pub enumeration : Grammar models RawDeclaration
enumeration = after class.Enum (after class.Domain (shown enumeration_of (both (name domains) (after class.Equal (after class.OpenBrace (before (both (name elements) more_elements) class.CloseBrace))))))

-- "domain" Dom "subsetof" Dom
unfoldable pub subset : Grammar models RawDeclaration
subset = after class.Domain (shown (λ p. declaration_of.Subset p.0 p.1) (both (name domains) (after class.SubsetOf (name domains))))

-- "abstract" "domain" Dom
unfoldable pub abstract_domain : Grammar models RawDeclaration
abstract_domain = after class.Abstract (after class.Domain (shown declaration_of.Abstract (name domains)))

-- the kinds of functions
unfoldable pub dynamic_kind : Grammar models RawFunctionKind
dynamic_kind =
    either (shown (λ t. function_kind.Controlled) (token class.Controlled))
    (either (shown (λ t. function_kind.Monitored) (token class.Monitored))
    (either (shown (λ t. function_kind.Shared) (token class.Shared))
    (shown (λ t. function_kind.Out) (token class.Out))))

unfoldable pub function_kinds : Grammar models RawFunctionKind
function_kinds =
    either (after class.Dynamic dynamic_kind)
    (either dynamic_kind
    (either (shown (λ t. function_kind.Static) (token class.Static))
    (shown (λ t. function_kind.Derived) (token class.Derived))))

-- the domain behind an arrow, if there is one
unfoldable pub arrow : Grammar models (Option RawName)
arrow = either (shown Some (after class.Arrow (name domains))) (nothing [] None)

abbrev pub plain_type : RawName × Option RawName → List RawName × RawName
plain_type (d, None) = ([], d)
plain_type (d, Some c) = (d ∷ [], c)

-- type = Dom [ "->" Dom ] | "Prod" "(" Dom { "," Dom } ")" "->" Dom
unfoldable pub function_type : Grammar models (List RawName × RawName)
function_type =
    either (after class.Prod (both (shown (λ p. p.1) (opening (kind_of class.Open ∷ []) Product)) (after class.Arrow (name domains))))
    (shown plain_type (both (name domains) arrow))

abbrev pub function_of : RawFunctionKind × (RawName × (List RawName × RawName)) → RawDeclaration
function_of p = declaration_of.Function p.0 p.1.0 p.1.1.0 p.1.1.1

-- [ "dynamic" ] kind Fun ":" type
unfoldable pub function : Grammar models RawDeclaration
function = shown function_of (both function_kinds (both (name (functions false)) (after class.Colon function_type)))

-- decl
unfoldable pub declaration : Grammar models RawDeclaration
declaration = either enumeration (either subset (either abstract_domain function))

unfoldable pub declarations : Grammar models (List RawDeclaration)
declarations = many declaration

-- ---- definitions

unfoldable pub more_ints : Grammar models (List RawInt)
more_ints = many (after class.Comma int)

-- what follows the first number of a domain: the last one, or further ones
abbrev pub domain_from : RawName → RawInt → Option RawInt × List RawInt → RawDefinition
domain_from d low (Some high, _) = definition_of.Range d low high
domain_from d low (None, more) = definition_of.List d (low ∷ more)

-- ( ".." | ":" ) int | { "," int }
unfoldable pub numbers : Grammar models (Option RawInt × List RawInt)
numbers = either (shown (λ p. (Some p.1, [])) (both (word (kind_of class.To ∷ kind_of class.Colon ∷ [])) int)) (shown (λ xs. (None, xs)) more_ints)

abbrev pub domain_of : RawName × (RawInt × (Option RawInt × List RawInt)) → RawDefinition
domain_of p = domain_from p.0 p.1.0 p.1.1

-- "domain" Dom "=" "{" int numbers "}"
unfoldable pub domain : Grammar models RawDefinition
domain = after class.Domain (shown domain_of (both (name domains) (after class.Equal (after class.OpenBrace (both int (before numbers class.CloseBrace))))))

-- [ "(" binders ")" ]
unfoldable pub parameters : Grammar models (List RawBinder)
parameters = either (shown (λ p. p.1) (opening (kind_of class.Open ∷ []) Parameters)) (nothing [] [])

abbrev pub function_body_of : RawName × (List RawBinder × RawTerm) → RawFunction
function_body_of p = record { name = p.0; parameters = p.1.0; term = p.1.1 }

-- "function" Fun [ params ] "=" term
unfoldable pub function_body : Grammar models RawFunction
function_body = after class.Function (shown function_body_of (both (name (functions false)) (both parameters (after class.Equal (term false)))))

abbrev pub macro_of : RawName × (List RawBinder × RawRule) → RawDefinition
macro_of p = definition_of.Rule p.0 p.1.0 p.1.1

-- "rule" Rule [ params ] "=" rule
unfoldable pub plain_macro : Grammar models RawDefinition
plain_macro = after class.Rule (shown macro_of (both (name rules) (both parameters (after class.Equal (rule false)))))

-- [ "macro" ] plain_macro
unfoldable pub macro : Grammar models RawDefinition
macro = either (after class.Macro plain_macro) plain_macro

-- [ Inv ]
unfoldable pub invariant_name : Grammar models (Option RawName)
invariant_name = either (shown Some (name invariants)) (nothing [] None)

unfoldable pub more_over : Grammar models (List RawName)
more_over = many (after class.Comma (name free_words))

abbrev pub invariant_of : TokenText × (Option RawName × ((RawName × List RawName) × RawTerm)) → RawDefinition
invariant_of p = definition_of.Invariant (record { at = p.0.at; name = p.1.0; over = p.1.1.0.0 ∷ p.1.1.0.1; term = p.1.1.1 })

-- "invariant" [ Inv ] "over" Word { "," Word } ":" term
unfoldable pub invariant : Grammar models RawDefinition
invariant = shown invariant_of (both (token class.Invariant) (both invariant_name (after class.Over (both (both (name free_words) more_over) (after class.Colon (term false))))))

-- def
unfoldable pub definition : Grammar models RawDefinition
definition = either domain (either (shown definition_of.Function function_body) (either macro invariant))

unfoldable pub definitions : Grammar models (List RawDefinition)
definitions = many definition

-- ---- units

abbrev pub main_of : RawName × RawRule → RawMain
main_of p = record { name = p.0; rule = p.1 }

-- "rule" Rule "=" rule
unfoldable pub main_rule : Grammar models RawMain
main_rule = after class.Rule (shown main_of (both (name rules) (after class.Equal (rule false))))

-- main = "main" [ "macro" ] main_rule
unfoldable pub main : Grammar models RawMain
main = after class.Main (either (after class.Macro main_rule) main_rule)

unfoldable pub function_bodies : Grammar models (List RawFunction)
function_bodies = many function_body

abbrev pub init_of : RawName × List RawFunction → RawInit
init_of p = record { name = p.0; functions = p.1 }

-- [ "default" "init" Word ":" { function_body } ]
unfoldable pub init : Grammar models (Option RawInit)
init = either (shown Some (after class.Default (after class.Init (shown init_of (both (name words) (after class.Colon function_bodies)))))) (nothing [] None)

-- [ main ] [ init ]: a main rule and what follows it, or what may follow it
unfoldable pub closing : Grammar models (Option RawMain × Option RawInit)
closing = either (shown (λ p. (Some p.0, p.1)) (both main init)) (shown (λ i. (None, i)) init)

-- { "import" path } [ export ] "signature" ":" { decl } "definitions" ":" { def }
unfoldable pub content : Grammar models (List RawPath × (List RawDeclaration × List RawDefinition))
content = both imports (shown (λ p. p.1) (both export (after class.Signature (after class.Colon (both declarations (after class.Definitions (after class.Colon definitions)))))))

abbrev pub asm_of : RawName × ((List RawPath × (List RawDeclaration × List RawDefinition)) × (Option RawMain × Option RawInit)) → RawUnit
asm_of p = record { kind = unit_kind.Asm; name = p.0; imports = p.1.0.0; declarations = p.1.0.1.0; definitions = p.1.0.1.1; main = p.1.1.0; init = p.1.1.1 }

abbrev pub module_of : RawName × (List RawPath × (List RawDeclaration × List RawDefinition)) → RawUnit
module_of p = record { kind = unit_kind.Module; name = p.0; imports = p.1.0; declarations = p.1.1.0; definitions = p.1.1.1; main = None; init = None }

-- unit = "asm" Word content [ main ] [ init ] | "module" Word content
unfoldable pub unit : Grammar models RawUnit
unit =
    either (after class.Asm (shown asm_of (both (name words) (both content closing))))
    (after class.Module (shown module_of (both (name words) content)))
