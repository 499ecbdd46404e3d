-- What declarations and definitions begin with.
use Rattle.std.proofs.Common.{◌≡◌, [], ◌∷◌, refl}
use Rattle.asm_grammar.specs.Grammar.{firsts}
use Rattle.asm_tree.specs.Words.{kind_of}
use Rattle.asm_tree.specs.declared.class.Class.TheVariants as class
use Rattle.asm_tree.specs.Language.{models}
use Rattle.asm_tree.specs.Units.{enumeration, subset, abstract_domain, dynamic_kind, function_kinds, function, declaration, domain, function_body, macro, plain_macro, invariant, definition}

pub begins_dynamic_is : firsts models dynamic_kind ≡ kind_of class.Controlled ∷ kind_of class.Monitored ∷ kind_of class.Shared ∷ kind_of class.Out ∷ []
unfolding dynamic_kind
begins_dynamic_is = refl

pub begins_declaration_is : firsts models declaration ≡ kind_of class.Enum ∷ kind_of class.Domain ∷ kind_of class.Abstract ∷ kind_of class.Dynamic ∷ kind_of class.Controlled ∷ kind_of class.Monitored ∷ kind_of class.Shared ∷ kind_of class.Out ∷ kind_of class.Static ∷ kind_of class.Derived ∷ []
unfolding declaration enumeration subset abstract_domain function function_kinds dynamic_kind
begins_declaration_is = refl

pub begins_definition_is : firsts models definition ≡ kind_of class.Domain ∷ kind_of class.Function ∷ kind_of class.Macro ∷ kind_of class.Rule ∷ kind_of class.Invariant ∷ []
unfolding definition domain function_body macro plain_macro invariant
begins_definition_is = refl
