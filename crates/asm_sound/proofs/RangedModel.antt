-- Where nothing is wrong with files and no interval is refused, the model that they are is well formed.
use Rattle.std.proofs.Common.{◌≡◌, ℕ, ◌≤◌, List, [], ◌∷◌, ◌++◌, cond, length, Option, Some, None, nat_eq, slice_get, All, refl, sym, ap, subst, ◌∙◌, arith, Bool as Truth}
use Rattle.std.specs.Prelude.{map}
use Rattle.std.specs.List.{flat_map}
use Rattle.std.specs.Option.{option_map}
use Rattle.std.proofs.lemmas.Bool.{eqb-true as same_number}
use Rattle.std.proofs.lemmas.Option.{slice_get-map}
use Rattle.asm_sign.specs.declared.function.DeclaredDomain.{DeclaredDomain}
use Rattle.asm_sign.specs.declared.function.Function.{Function}
use Rattle.asm_sign.specs.Vocabulary.{Vocabulary}
use Rattle.asm_node.specs.declared.term.Binder.{Binder}
use Rattle.asm_node.specs.declared.term_type.TermType.TheVariants.{Boolean}
use Rattle.asm_node.specs.Machine.{Definition, Macro}
use Rattle.asm_node.specs.Tree.{Tree}
use Rattle.asm_node.specs.Types.{domain_type}
use Rattle.asm_node.specs.Values.{whole}
use Rattle.asm_node.specs.Ranges.{Ranges, no_ranges, AreParameters, IsRanged}
use Rattle.asm_node.specs.RuleRanges.{IsRangedRule}
use Rattle.asm_node.specs.WellFormed.{IsWellFormed}
use Rattle.asm_tree.specs.declared.term.RawName.{RawName}
use Rattle.asm_tree.specs.declared.term.RawBinder.{RawBinder}
use Rattle.asm_tree.specs.declared.unit.RawFunction.{RawFunction}
use Rattle.asm_tree.specs.declared.unit.RawInvariant.{RawInvariant}
use Rattle.asm_tree.specs.declared.unit.RawMain.{RawMain}
use Rattle.asm_tree.specs.declared.unit.LoadedUnit.{LoadedUnit}
use Rattle.asm_faults.specs.declared.fault.Fault.{Fault}
use Rattle.asm_faults.specs.declared.fault.ModelFault.TheVariants.{Unknown, WrongKind, WrongArity}
use Rattle.asm_faults.specs.At.{Name, fault_at, token}
use Rattle.asm_faults.specs.DomainFaults.{is_listed, repeats}
use Rattle.asm_faults.specs.Files.{Of, DeclaredRule, rules, definitions, initials, invariants, rule_in, main_in, named_of, all_of, to_list, declared_names}
use Rattle.asm_faults.specs.FunctionFaults.{domains_of, signature_of, domain_number, unknown_domain}
use Rattle.asm_faults.specs.Terms as typing
use Rattle.asm_faults.specs.Terms.{judged, function_named, binder_faults, asked, arity_faults}
use Rattle.asm_faults.specs.Bodies as bodies
use Rattle.asm_faults.specs.Bodies.{heads_of, is_defined_by_term, has_initial, of_parameters, parameter_faults, function_body_faults, functions_faults, macro_faults, invariant_faults}
use Rattle.asm_faults.specs.Ranges.{within, term_faults, rule_faults, function_faults, range_faults}
use Rattle.asm_faults.specs.Check.{model_fault}
use Rattle.asm_faults.specs.Model.{IsNumbering, binders_of, tree_of, rule_of, file_of, definition_of, macro_of, main_rules, first_or_skip, machine_of}
use Rattle.asm_sound.specs.Checked.{AreFaultless}
use Rattle.asm_sound.proofs.Declarations.{signature_declarations}
use Rattle.asm_sound.proofs.Scopes.{full, none_left, none_right, holds}
use Rattle.asm_sound.proofs.TypedTerms.{IsReady, no_some, asked_own, function_found}
use Rattle.asm_sound.proofs.Heads.{none_at, all_found, some_is, unknown_none}
use Rattle.asm_sound.proofs.Definitions.{parameter_domain}
use Rattle.asm_sound.proofs.MacroRules.{flat_map-append}
use Rattle.asm_sound.proofs.Signature.{signature_ready}
use Rattle.asm_sound.proofs.Checking.{checked}
use Rattle.asm_sound.proofs.Forming.{AreRanged, well_formed}
use Rattle.asm_sound.proofs.NoFault.{faultless, undisputed, unrefused}
use Rattle.asm_sound.proofs.RangedScopes.{known_number, agrees_none, Match, parameters_in}
use Rattle.asm_sound.proofs.RangedTerms.{term_ranged}
use Rattle.asm_sound.proofs.RangedRules.{rule_ranged}

-- what holds of what each item becomes holds of all
all_mapped : {A B : Type 0} (P : B → Type 0) (f : A → B) (xs : List A) → ((k : ℕ) (x : A) → slice_get xs k ≡ Some x → P (f x)) → All P (map f xs)
all_mapped {A} {B} P f xs each = all_found P (map f xs) (λ k y is. by k y (slice_get xs k) refl (sym (slice_get-map f xs k) ∙ is))
  where
    by : (k : ℕ) (y : B) (o : Option A) → slice_get xs k ≡ o → option_map f o ≡ Some y → P y
    by k y None at is = absurd (no_some y is)
    by k y (Some x) at is = subst P (some_is (f x) y is) (each k x at)

module _ (number : Name → ℕ) (numbering : IsNumbering number) (v : Vocabulary) (ready : IsReady v) (units : List LoadedUnit) where
  abbrev unknown : ℕ → List RawBinder → List Fault
  unknown n bs = flat_map (λ (b : RawBinder). unknown_domain v.domains n b.domain) bs

  -- ---- parameters

  -- parameters of a function have its domains
  matches : (n : ℕ) (bs : List RawBinder) (ds : List ℕ) → length ds ≡ length bs → unknown n bs ≡ [] → parameter_faults v.domains n bs ds ≡ [] → Match number numbering v bs ds
  matches n [] [] lengths known none = tt
  matches n [] (d ∷ ds) lengths known none = absurd (omega (arith, lengths))
  matches n (b ∷ bs) [] lengths known none = absurd (omega (arith, lengths))
  matches n (b ∷ bs) (d ∷ ds) lengths known none =
      let own : List Fault = of_parameters (domain_number v.domains b.domain.text) d n b.domain in
      let here = none_left (unknown_domain v.domains n b.domain) (unknown n bs) known in
      let same = parameter_domain v.domains b d n here (none_left own (parameter_faults v.domains n bs ds) none) in
      (known_number v.domains n b.domain here ∙ ap (λ (k : ℕ). Some k) (sym same), matches n bs ds (omega (arith, lengths)) (none_right (unknown_domain v.domains n b.domain) (unknown n bs) known) (none_right own (parameter_faults v.domains n bs ds) none))

  -- those of a rule have their own
  matches_own : (n : ℕ) (bs : List RawBinder) → unknown n bs ≡ [] → Match number numbering v bs (map (λ (p : Binder). p.domain) (binders_of number v bs))
  matches_own n [] known = tt
  matches_own n (b ∷ bs) known = (known_number v.domains n b.domain (none_left (unknown_domain v.domains n b.domain) (unknown n bs) known), matches_own n bs (none_right (unknown_domain v.domains n b.domain) (unknown n bs) known))

  same_variables : (bs : List RawBinder) → map (λ (b : RawBinder). number b.variable.text) bs ≡ map (λ (p : Binder). p.variable) (binders_of number v bs)
  same_variables [] = refl
  same_variables (b ∷ bs) = ap (λ (xs : List ℕ). number b.variable.text ∷ xs) (same_variables bs)

  -- ---- definitions

  -- the parameters and the body of a definition have ranges
  abbrev HasRanges : List ℕ → Tree → Function → Type 0
  HasRanges xs t g = (ranges : Ranges) × AreParameters v xs g.domains ranges × IsRanged v ranges t

  abbrev IsRangedDefinition : Definition → Type 0
  IsRangedDefinition d = (g : Function) → slice_get v.functions d.function ≡ Some g → HasRanges d.parameters d.body g

  definition_ranged : (may : List DeclaredDomain → Function → Truth) (p : Of RawFunction) → function_body_faults v may p (function_named v p.1.name.text) ≡ [] → function_faults v p ≡ []
      → IsRangedDefinition (definition_of number v units p)
  definition_ranged may (n, f) none fine g is = by (function_named v f.name.text) refl none
    where
      by : (o : Option Function) → function_named v f.name.text ≡ o → function_body_faults v may (n, f) o ≡ [] → HasRanges (map (λ (b : RawBinder). number b.variable.text) f.parameters) (tree_of number v f.term) g
      by None at e = absurd (full (fault_at Unknown n f.name) [] e)
      by (Some h) at e =
          (let kind : List Fault = cond (may v.domains h) [] (fault_at WrongKind n f.name ∷ []) in
          let arity : List Fault = arity_faults v n f.name.at f.name.text (length h.domains) (length f.parameters) in
          let binders : List Fault = binder_faults v n f.parameters in
          let own : List Fault = parameter_faults v.domains n f.parameters h.domains in
          let types : typing.Scope = typing.within v n f.parameters [] in
          let value : List Fault = asked v n (domain_type v.domains h.codomain) types (judged v n f.term) in
          let after_kind = none_right kind (arity ++ (binders ++ (own ++ value))) e in
          let after_arity = none_right arity (binders ++ (own ++ value)) after_kind in
          let after_binders = none_right binders (own ++ value) after_arity in
          let lengths = same_number (length h.domains) (length f.parameters) (holds (nat_eq (length h.domains) (length f.parameters)) (token WrongArity n f.name.at f.name.text) (none_left arity (binders ++ (own ++ value)) after_kind)) in
          let known = unknown_none v n f.parameters (none_left binders (own ++ value) after_arity) in
          let inner = parameters_in number numbering v f.parameters h.domains (matches n f.parameters h.domains lengths known (none_left own value after_binders)) in
          let body = term_ranged number numbering v ready n f.term types (within v f.parameters []) inner.0 inner.2 (asked_own v n (domain_type v.domains h.codomain) types (judged v n f.term) (none_right own value after_binders)) fine in
          let same = some_is h g (sym (function_found number v f.name.text h at) ∙ is) in
          subst (HasRanges (map (λ (b : RawBinder). number b.variable.text) f.parameters) (tree_of number v f.term)) same (inner.0, inner.1, (body.0, body.2)))

  definitions_ranged : (may : List DeclaredDomain → Function → Truth) (fs : List (Of RawFunction)) → functions_faults v may fs ≡ [] → flat_map (function_faults v) fs ≡ [] → All IsRangedDefinition (map (definition_of number v units) fs)
  definitions_ranged may fs none fine =
      let named : List Fault = repeats [] (map (λ (p : Of RawFunction). (p.0, p.1.name)) fs) in
      let own : List Fault = flat_map (λ (p : Of RawFunction). function_body_faults v may p (function_named v p.1.name.text)) fs in
      all_mapped IsRangedDefinition (definition_of number v units) fs
      (λ k p at. definition_ranged may p (none_at (λ (q : Of RawFunction). function_body_faults v may q (function_named v q.1.name.text)) fs k p (none_right named own none) at) (none_at (function_faults v) fs k p fine at))

  -- ---- rules

  abbrev refused_in : DeclaredRule → List Fault
  refused_in q = rule_faults v q.unit q.body (within v q.parameters [])

  abbrev IsRangedMacro : Macro → Type 0
  IsRangedMacro macro = (ranges : Ranges) × AreParameters v (map (λ p. p.variable) macro.parameters) (map (λ p. p.domain) macro.parameters) ranges × IsRangedRule v ranges macro.body

  macro_ranged : (q : DeclaredRule) → macro_faults v (heads_of v units) q ≡ [] → refused_in q ≡ [] → IsRangedMacro (macro_of number v units q)
  macro_ranged q none fine =
      let binders : List Fault = binder_faults v q.unit q.parameters in
      let types : typing.Scope = typing.within v q.unit q.parameters [] in
      let body : List Fault = bodies.rule_faults v (heads_of v units) q.unit q.body types in
      let known = unknown_none v q.unit q.parameters (none_left binders body none) in
      let ps : List Binder = binders_of number v q.parameters in
      let inner = parameters_in number numbering v q.parameters (map (λ (p : Binder). p.domain) ps) (matches_own q.unit q.parameters known) in
      let ranged = rule_ranged number numbering v ready units (heads_of v units) q.unit (file_of number v units q.unit) q.body types (within v q.parameters []) inner.0 inner.2 (none_right binders body none) fine in
      (inner.0, subst (λ (xs : List ℕ). AreParameters v xs (map (λ (p : Binder). p.domain) ps) inner.0) (same_variables q.parameters) inner.1, ranged)

  macros_ranged : flat_map (macro_faults v (heads_of v units)) (rules units) ≡ [] → flat_map refused_in (rules units) ≡ [] → All IsRangedMacro (map (macro_of number v units) (rules units))
  macros_ranged none fine =
      all_mapped IsRangedMacro (macro_of number v units) (rules units)
      (λ k q at. macro_ranged q (none_at (macro_faults v (heads_of v units)) (rules units) k q none at) (none_at refused_in (rules units) k q fine at))

  main_ranged : flat_map (macro_faults v (heads_of v units)) (rules units) ≡ [] → flat_map refused_in (rules units) ≡ [] → IsRangedRule v no_ranges (first_or_skip number v units (main_rules number v units))
  main_ranged none fine =
      by (named_of (λ u. to_list u.main) units)
      (flat_map-append (macro_faults v (heads_of v units)) (flat_map rule_in (all_of (λ u. u.definitions) units)) (map main_in (named_of (λ u. to_list u.main) units)) none)
      (flat_map-append refused_in (flat_map rule_in (all_of (λ u. u.definitions) units)) (map main_in (named_of (λ u. to_list u.main) units)) fine)
    where
      by : (ms : List (Of RawMain)) → flat_map (macro_faults v (heads_of v units)) (map main_in ms) ≡ [] → flat_map refused_in (map main_in ms) ≡ []
          → IsRangedRule v no_ranges (first_or_skip number v units (map (λ (p : Of RawMain). rule_of number v units (file_of number v units p.0) p.1.rule) ms))
      by [] e d = tt
      by ((n, m) ∷ ms) e d =
          (let own = none_left (macro_faults v (heads_of v units) (main_in (n, m))) (flat_map (macro_faults v (heads_of v units)) (map main_in ms)) e in
          let body = none_right (binder_faults v n []) (bodies.rule_faults v (heads_of v units) n m.rule []) own in
          rule_ranged number numbering v ready units (heads_of v units) n (file_of number v units n) m.rule [] [] no_ranges (agrees_none number) body (none_left (refused_in (main_in (n, m))) (flat_map refused_in (map main_in ms)) d))

  -- ---- invariants

  invariants_ranged : (declared : List Name) (is : List (Of RawInvariant)) → flat_map (invariant_faults v declared) is ≡ [] → flat_map (λ (p : Of RawInvariant). term_faults v p.0 p.1.term []) is ≡ []
      → All (IsRanged v no_ranges) (map (λ (p : Of RawInvariant). tree_of number v p.1.term) is)
  invariants_ranged declared is none fine =
      all_mapped (IsRanged v no_ranges) (λ (p : Of RawInvariant). tree_of number v p.1.term) is
      (λ k p at. one p (none_at (invariant_faults v declared) is k p none at) (none_at (λ (q : Of RawInvariant). term_faults v q.0 q.1.term []) is k p fine at))
    where
      unless : ℕ → RawName → Truth → List Fault
      unless n name b = cond b [] (fault_at Unknown n name ∷ [])

      one : (p : Of RawInvariant) → invariant_faults v declared p ≡ [] → term_faults v p.0 p.1.term [] ≡ [] → IsRanged v no_ranges (tree_of number v p.1.term)
      one (n, i) e d =
          (let value = none_right (flat_map (λ (name : RawName). unless n name (is_listed declared name.text)) i.over) (asked v n (Some Boolean) [] (judged v n i.term)) e in
          let r = term_ranged number numbering v ready n i.term [] [] no_ranges (agrees_none number) (asked_own v n (Some Boolean) [] (judged v n i.term) value) d in
          (r.0, r.2))

-- ---- the model

module _ (number : Name → ℕ) (units : List LoadedUnit) (numbering : IsNumbering number) (few : length (domains_of units) ≤ whole) (none : AreFaultless units) (fine : range_faults (signature_of units) units ≡ []) where
  abbrev v : Vocabulary
  v = signature_of units

  abbrev of_definitions : List Fault
  of_definitions = functions_faults v is_defined_by_term (definitions units)

  abbrev of_rules : List Fault
  of_rules = flat_map (macro_faults v (heads_of v units)) (rules units)

  abbrev declared : List Name
  declared = map (λ (p : Of RawName). p.1.text) (declared_names units)

  abbrev of_invariants : List Fault
  of_invariants = flat_map (invariant_faults v declared) (invariants units)

  abbrev of_initials : List Fault
  of_initials = functions_faults v has_initial (initials units)

  abbrev in_definitions : List Fault
  in_definitions = flat_map (function_faults v) (definitions units)

  abbrev in_rules : List Fault
  in_rules = flat_map (λ (r : DeclaredRule). rule_faults v r.unit r.body (within v r.parameters [])) (rules units)

  abbrev in_invariants : List Fault
  in_invariants = flat_map (λ (p : Of RawInvariant). term_faults v p.0 p.1.term []) (invariants units)

  abbrev in_initials : List Fault
  in_initials = flat_map (function_faults v) (initials units)

  ready : IsReady v
  ready = signature_ready units few none.functions

  pub ranged : AreRanged (machine_of number units)
  ranged =
      let rest = none_right of_definitions (of_rules ++ (of_invariants ++ of_initials)) none.bodies in
      let last = none_right of_rules (of_invariants ++ of_initials) rest in
      let rest_fine = none_right in_definitions (in_rules ++ (in_invariants ++ in_initials)) fine in
      let last_fine = none_right in_rules (in_invariants ++ in_initials) rest_fine in
      let rules_none = none_left of_rules (of_invariants ++ of_initials) rest in
      let rules_fine = none_left in_rules (in_invariants ++ in_initials) rest_fine in
      record {
        definitions = definitions_ranged number numbering v ready units is_defined_by_term (definitions units) (none_left of_definitions (of_rules ++ (of_invariants ++ of_initials)) none.bodies) (none_left in_definitions (in_rules ++ (in_invariants ++ in_initials)) fine);
        initial_terms = definitions_ranged number numbering v ready units has_initial (initials units) (none_right of_invariants of_initials last) (none_right in_invariants in_initials last_fine);
        rules = macros_ranged number numbering v ready units rules_none rules_fine;
        invariants = invariants_ranged number numbering v ready units declared (invariants units) (none_left of_invariants of_initials last) (none_left in_invariants in_initials last_fine);
        main = main_ranged number numbering v ready units rules_none rules_fine;
      }

-- where the check has no fault, the model that files are is well formed
pub model_formed : (number : Name → ℕ) (units : List LoadedUnit) → IsNumbering number → length (domains_of units) ≤ whole → model_fault units ≡ None → IsWellFormed (machine_of number units)
model_formed number units numbering few none =
    let fine = faultless units none in
    well_formed (machine_of number units) few (signature_declarations units fine.names (undisputed units none) few) (checked number units numbering few fine) (ranged number units numbering few fine (unrefused units none))
