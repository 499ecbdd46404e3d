-- Where nothing is wrong with the rules and invariants of files, macro rules, the main rule and invariants are well typed.
use Rattle.std.proofs.Common.{◌≡◌, ℕ, suc, zero, if◌then◌else◌, arith, Bool as Truth, List, [], ◌∷◌, ◌++◌, Option, Some, None, slice_get, IsSome, All, refl, sym, ap, subst, ◌∙◌}
use Rattle.std.specs.Prelude.{map}
use Rattle.std.specs.List.{flat_map}
use Rattle.std.specs.Option.{option_map}
use Rattle.std.proofs.lemmas.Option.{slice_get-map}
use Rattle.asm_sign.specs.Vocabulary.{Vocabulary}
use Rattle.asm_node.specs.declared.term.Binder.{Binder}
use Rattle.asm_node.specs.declared.term_type.TermType.TheVariants.{Boolean}
use Rattle.asm_node.specs.Machine.{Macro}
use Rattle.asm_node.specs.Tree.{Tree}
use Rattle.asm_node.specs.Types.{Types, no_types, domain_type, of_domain, put_type, bound_types, parameter_types, HasType, IsTypedRule}
use Rattle.asm_tree.specs.declared.term.RawName.{RawName}
use Rattle.asm_tree.specs.declared.unit.RawInvariant.{RawInvariant}
use Rattle.asm_tree.specs.declared.unit.RawMain.{RawMain}
use Rattle.asm_tree.specs.declared.unit.LoadedUnit.{LoadedUnit}
use Rattle.asm_faults.specs.declared.fault.Fault.{Fault}
use Rattle.asm_faults.specs.declared.fault.ModelFault.TheVariants.{Unknown}
use Rattle.asm_faults.specs.At.{Name, fault_at}
use Rattle.asm_faults.specs.DomainFaults.{is_listed}
use Rattle.asm_faults.specs.Files.{Of, DeclaredRule, rules, rule_in, main_in, named_of, all_of, to_list}
use Rattle.asm_faults.specs.Terms.{judged, within, binder_faults, asked}
use Rattle.asm_faults.specs.Bodies.{heads_of, rule_faults, macro_faults, invariant_faults}
use Rattle.asm_faults.specs.Model.{IsNumbering, binders_of, tree_of, rule_of, file_of, macro_of, main_rules, first_or_skip}
use Rattle.asm_sound.proofs.Scopes.{none_left, none_right, agrees_within}
use Rattle.asm_sound.proofs.TypedTerms.{IsReady, no_some, term_typed, asked_typed}
use Rattle.asm_sound.proofs.TypedRules.{rule_typed}
use Rattle.asm_sound.proofs.Heads.{none_at, all_found, some_is, unknown_none, have_parameters, heads_belong, declared_parameters}
use Rattle.asm_sound.proofs.Definitions.{agrees_none}

-- a macro rule whose parameters have declared domains, and whose body is well typed
pub record IsTypedMacro (v : Vocabulary) (macros : List Macro) (macro : Macro) : Type 0 where
  pub declared : All (λ (p : Binder). IsSome (domain_type v.domains p.domain)) macro.parameters
  pub typed : IsTypedRule v macros (parameter_types v.domains (map (λ (p : Binder). p.variable) macro.parameters) (map (λ (p : Binder). p.domain) macro.parameters)) macro.body

-- the types of a macro rule's parameters are those of its binders
parameters_of : (v : Vocabulary) (ps : List Binder) → bound_types v.domains ps no_types ≡ parameter_types v.domains (map (λ (p : Binder). p.variable) ps) (map (λ (p : Binder). p.domain) ps)
parameters_of v [] = refl
parameters_of v (p ∷ ps) = ap (put_type p.variable (of_domain v.domains p.domain)) (parameters_of v ps)

pub flat_map-append : {A B : Type 0} (f : A → List B) (xs ys : List A) → flat_map f (xs ++ ys) ≡ [] → flat_map f ys ≡ []
flat_map-append f [] ys none = none
flat_map-append f (x ∷ xs) ys none = flat_map-append f xs ys (none_right (f x) (flat_map f (xs ++ ys)) none)

module _ (number : Name → ℕ) (numbering : IsNumbering number) (v : Vocabulary) (ready : IsReady v) (units : List LoadedUnit) where
  abbrev macros : List Macro
  macros = map (macro_of number v units) (rules units)

  macro_typed : flat_map (macro_faults v (heads_of v units)) (rules units) ≡ [] → (q : DeclaredRule) → macro_faults v (heads_of v units) q ≡ [] → IsTypedMacro v macros (macro_of number v units q)
  macro_typed all q none =
      let binders : List Fault = binder_faults v q.unit q.parameters in
      let body : List Fault = rule_faults v (heads_of v units) q.unit q.body (within v q.unit q.parameters []) in
      let known = unknown_none v q.unit q.parameters (none_left binders body none) in
      let belong = heads_belong number v ready.truths units (have_parameters number v ready.truths units all) in
      let types : Types = bound_types v.domains (binders_of number v q.parameters) no_types in
      let typed = rule_typed number numbering v ready units (heads_of v units) macros belong q.unit (file_of number v units q.unit) q.body (within v q.unit q.parameters []) types
      (agrees_within number numbering v q.unit ready.truths q.parameters [] no_types (agrees_none number) known) (none_right binders body none) in
      record {
        declared = declared_parameters number v q.unit ready.truths q.parameters known;
        typed = subst (λ (ts : Types). IsTypedRule v macros ts (rule_of number v units (file_of number v units q.unit) q.body)) (parameters_of v (binders_of number v q.parameters)) typed;
      }

  -- the macro rules of files are well typed
  pub macros_typed : flat_map (macro_faults v (heads_of v units)) (rules units) ≡ [] → All (IsTypedMacro v macros) macros
  macros_typed none = all_found (IsTypedMacro v macros) macros (λ k macro is. by k macro (slice_get (rules units) k) refl (sym (slice_get-map (macro_of number v units) (rules units) k) ∙ is))
    where
      by : (k : ℕ) (macro : Macro) (o : Option DeclaredRule) → slice_get (rules units) k ≡ o → option_map (macro_of number v units) o ≡ Some macro → IsTypedMacro v macros macro
      by k macro None at is = absurd (no_some macro is)
      by k macro (Some q) at is = subst (IsTypedMacro v macros) (some_is (macro_of number v units q) macro is) (macro_typed none q (none_at (macro_faults v (heads_of v units)) (rules units) k q none at))

  -- the main rule is well typed
  pub main_typed : flat_map (macro_faults v (heads_of v units)) (rules units) ≡ [] → IsTypedRule v macros no_types (first_or_skip number v units (main_rules number v units))
  main_typed none = by (named_of (λ u. to_list u.main) units) (flat_map-append (macro_faults v (heads_of v units)) (flat_map rule_in (all_of (λ u. u.definitions) units)) (map main_in (named_of (λ u. to_list u.main) units)) none)
    where
      by : (ms : List (Of RawMain)) → flat_map (macro_faults v (heads_of v units)) (map main_in ms) ≡ [] → IsTypedRule v macros no_types (first_or_skip number v units (map (λ (p : Of RawMain). rule_of number v units (file_of number v units p.0) p.1.rule) ms))
      by [] e = tt
      by (m ∷ ms) e = (macro_typed none (main_in (m.0, m.1)) (none_left (macro_faults v (heads_of v units) (main_in (m.0, m.1))) (flat_map (macro_faults v (heads_of v units)) (map main_in ms)) e)).typed

  -- invariants are truth values
  pub invariants_typed : (declared : List Name) (is : List (Of RawInvariant)) → flat_map (invariant_faults v declared) is ≡ [] → All (λ (t : Tree). HasType v no_types t Boolean) (map (λ (p : Of RawInvariant). tree_of number v p.1.term) is)
  invariants_typed declared [] none k d lt = absurd (omega (arith, lt))
  invariants_typed declared (i ∷ is) none zero d lt =
      let own = none_left (invariant_faults v declared (i.0, i.1)) (flat_map (invariant_faults v declared) is) none in
      let value = none_right (flat_map (λ (name : RawName). unless name (is_listed declared name.text)) i.1.over) (asked v i.0 (Some Boolean) [] (judged v i.0 i.1.term)) own in
      asked_typed number numbering v ready i.0 Boolean (judged v i.0 i.1.term) (tree_of number v i.1.term) (term_typed number numbering v ready i.0 i.1.term) [] no_types (agrees_none number) value
    where
      unless : RawName → Truth → List Fault
      unless name b = if b then [] else fault_at Unknown i.0 name ∷ []
  invariants_typed declared (i ∷ is) none (suc k) d lt = invariants_typed declared is (none_right (invariant_faults v declared (i.0, i.1)) (flat_map (invariant_faults v declared) is) none) k d (omega (arith, lt))
