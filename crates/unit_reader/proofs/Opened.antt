-- How what opens a level is read in a file of a model.
use Rattle.std.proofs.Common.{◌≡◌, ℕ, false, if◌then◌else◌, List, [], ◌∷◌, Option, Ok, Some, None, refl, ap}
use Rattle.asm_grammar.specs.Grammar.{and_then, has, ahead, opening, shown, both}
use Rattle.asm_tree.specs.Words.{kind_of}
use Rattle.asm_tree.specs.declared.class.Class.TheVariants as class
use Rattle.asm_tree.specs.Language.{TokenText, models, after, name, domains, Product, Parameters}
use Rattle.asm_tree.specs.Terms.{binder, more_binders, binders}
use Rattle.asm_tree.specs.declared.unit.RawDefinition.TheVariants as definition_of
use Rattle.asm_tree.specs.declared.unit.RawInit.{RawInit}
use Rattle.asm_tree.specs.declared.unit.RawMain.{RawMain}
use Rattle.asm_tree.specs.Units.{numbers, more_ints, domain, parameters, function_body, plain_macro, macro, invariant_name, more_over, invariant, definition, ending, part, more_parts, path, imports, more_words, export, main, init, closing, enumeration, more_elements, subset, abstract_domain, dynamic_kind, function_kinds, function, arrow, declaration, plain_type}
use Rattle.asm_tree.specs.Rules.{more_domains, int}
use Rattle.asm_body.specs.Reading.{opened_in, read_in, read_flat}
use Rattle.asm_body.proofs.Opening.{opens}

module _ (n : ℕ) (w : List TokenText) where
  pub product_opens : read_in n false (shown (λ p. p.1) (opening (kind_of class.Open ∷ []) Product)) w ≡ opened_in n false (kind_of class.Open ∷ []) Product (λ p. p.1) w
  product_opens = opens false Product (kind_of class.Open ∷ []) (λ p. p.1) n w

  pub plain_type_flat : read_in n false (shown plain_type (both (name domains) arrow)) w ≡ read_flat (shown plain_type (both (name domains) arrow)) w
  unfolding arrow
  plain_type_flat = refl

  pub kinds_flat : read_in n false function_kinds w ≡ read_flat function_kinds w
  unfolding function_kinds dynamic_kind
  kinds_flat = refl

  pub declaration_is : read_in n false declaration w ≡ (if has (ahead models w 0) (kind_of class.Enum ∷ []) then read_flat enumeration w
      else (if has (ahead models w 0) (kind_of class.Domain ∷ []) then read_flat subset w
      else (if has (ahead models w 0) (kind_of class.Abstract ∷ []) then read_flat abstract_domain w
      else read_in n false function w)))
  unfolding declaration enumeration more_elements subset abstract_domain
  declaration_is = refl

  pub domains_flat : read_in n false (more_domains false) w ≡ read_flat (more_domains false) w
  unfolding more_domains
  domains_flat = refl

  pub binders_flat : read_in n false (binders false) w ≡ read_flat (binders false) w
  unfolding binders more_binders binder
  binders_flat = refl

  pub parameters_is : read_in n false parameters w ≡ (if has (ahead models w 0) (kind_of class.Open ∷ []) then opened_in n false (kind_of class.Open ∷ []) Parameters (λ p. p.1) w else Ok ([], w))
  unfolding parameters
  parameters_is = ap (λ o. if has (ahead models w 0) (kind_of class.Open ∷ []) then o else Ok ([], w)) (opens false Parameters (kind_of class.Open ∷ []) (λ p. p.1) n w)

  pub invariant_name_flat : read_in n false invariant_name w ≡ read_flat invariant_name w
  unfolding invariant_name
  invariant_name_flat = refl

  pub more_over_flat : read_in n false more_over w ≡ read_flat more_over w
  unfolding more_over
  more_over_flat = refl

  pub ruleset invariant_parts = (invariant_name_flat, more_over_flat)

  pub macro_is : read_in n false macro w ≡ (if has (ahead models w 0) (kind_of class.Macro ∷ []) then read_in n false (after class.Macro plain_macro) w else read_in n false plain_macro w)
  unfolding macro
  macro_is = refl

  pub definition_is : read_in n false definition w ≡ (if has (ahead models w 0) (kind_of class.Domain ∷ []) then read_flat domain w
      else (if has (ahead models w 0) (kind_of class.Function ∷ []) then read_in n false (shown definition_of.Function function_body) w
      else (if has (ahead models w 0) (kind_of class.Macro ∷ kind_of class.Rule ∷ []) then read_in n false macro w
      else read_in n false invariant w)))
  unfolding definition domain numbers more_ints int function_body macro plain_macro
  definition_is = refl

  pub closing_is : read_in n false closing w ≡ (if has (ahead models w 0) (kind_of class.Main ∷ []) then read_in n false (shown (λ (p : RawMain × Option RawInit). (Some p.0, p.1)) (both main init)) w else and_then models (read_in n false init w) (λ i r. Ok ((None, i), r)))
  unfolding closing main
  closing_is = refl

  pub imports_flat : read_in n false imports w ≡ read_flat imports w
  unfolding imports path part ending more_parts
  imports_flat = refl

  pub export_flat : read_in n false export w ≡ read_flat export w
  unfolding export more_words
  export_flat = refl

  pub ruleset content_parts = (imports_flat, export_flat)
