-- The checks one with the other.
use Rattle.std.proofs.Common.{◌≡◌, ℕ, ◌≤◌, List, [], ◌∷◌, ◌++◌, length, Some, slice_get, All}
use Rattle.std.specs.Prelude.{map}
use Rattle.std.specs.List.{flat_map}
use Rattle.asm_sign.specs.Kind.{is_kept}
use Rattle.asm_sign.specs.Vocabulary.{Vocabulary}
use Rattle.asm_node.specs.Machine.{Machine}
use Rattle.asm_node.specs.Values.{whole}
use Rattle.asm_node.specs.WellFormed.{is_defined, may_read}
use Rattle.asm_tree.specs.declared.term.RawName.{RawName}
use Rattle.asm_tree.specs.declared.unit.RawFunction.{RawFunction}
use Rattle.asm_tree.specs.declared.unit.LoadedUnit.{LoadedUnit}
use Rattle.asm_faults.specs.declared.fault.Fault.{Fault}
use Rattle.asm_faults.specs.At.{Name}
use Rattle.asm_faults.specs.DomainFaults.{repeats}
use Rattle.asm_faults.specs.Files.{Of, rules, functions, definitions, initials, invariants, declared_names, named_of}
use Rattle.asm_faults.specs.FunctionFaults.{domains_of, signature_of}
use Rattle.asm_faults.specs.Terms.{function_named}
use Rattle.asm_faults.specs.Bodies.{heads_of, is_defined_by_term, has_initial, function_body_faults, functions_faults, macro_faults, invariant_faults}
use Rattle.asm_faults.specs.Missing.{undefined, missing_main, missing_init}
use Rattle.asm_faults.specs.Calls.{static_faults, initial_faults}
use Rattle.asm_faults.specs.Calls as calls
use Rattle.asm_faults.specs.Model.{IsNumbering, machine_of}
use Rattle.asm_sound.specs.Checked.{AreFaultless, IsCheckedDefinition, IsChecked}
use Rattle.asm_sound.proofs.Scopes.{none_left, none_right}
use Rattle.asm_sound.proofs.TypedTerms.{IsReady}
use Rattle.asm_sound.proofs.Heads.{none_at}
use Rattle.asm_sound.proofs.Definitions.{functions_typed, functions_distinct, defined_kind, initial_kind}
use Rattle.asm_sound.proofs.MacroRules.{macros_typed, main_typed, invariants_typed}
use Rattle.asm_sound.proofs.Chains.{Placed, IsKnownBody, known_body, definitions_end, rules_end}
use Rattle.asm_sound.proofs.Readable.{definitions_readable, initials_readable, invariants_readable}
use Rattle.asm_sound.proofs.Signature.{signature_ready, signature_numbered, signature_declared, signature_placed, functions_defined}

module _ (number : Name → ℕ) (units : List LoadedUnit) (numbering : IsNumbering number) (few : length (domains_of units) ≤ whole) (none : AreFaultless units) where
  abbrev v : Vocabulary
  v = signature_of units

  abbrev of_definitions : List Fault
  of_definitions = functions_faults v is_defined_by_term (definitions units)

  abbrev of_rules : List Fault
  of_rules = flat_map (macro_faults v (heads_of v units)) (rules units)

  abbrev declared : List Name
  declared = map (λ (p : Of RawName). p.1.text) (declared_names units)

  abbrev of_invariants : List Fault
  of_invariants = flat_map (invariant_faults v declared) (invariants units)

  abbrev of_initials : List Fault
  of_initials = functions_faults v has_initial (initials units)

  definitions_none : of_definitions ≡ []
  definitions_none = none_left of_definitions (of_rules ++ (of_invariants ++ of_initials)) none.bodies

  rules_none : of_rules ≡ []
  rules_none = none_left of_rules (of_invariants ++ of_initials) (none_right of_definitions (of_rules ++ (of_invariants ++ of_initials)) none.bodies)

  last_none : of_invariants ++ of_initials ≡ []
  last_none = none_right of_rules (of_invariants ++ of_initials) (none_right of_definitions (of_rules ++ (of_invariants ++ of_initials)) none.bodies)

  invariants_none : of_invariants ≡ []
  invariants_none = none_left of_invariants of_initials last_none

  initials_none : of_initials ≡ []
  initials_none = none_right of_invariants of_initials last_none

  ready : IsReady v
  ready = signature_ready units few none.functions

  placed : Placed v
  placed = signature_placed units none.names

  known_definitions : (k : ℕ) (p : Of RawFunction) → slice_get (definitions units) k ≡ Some p → IsKnownBody v p
  known_definitions k p at =
      known_body v is_defined_by_term p (none_at (λ (p : Of RawFunction). function_body_faults v is_defined_by_term p (function_named v p.1.name.text)) (definitions units) k p
      (none_right (repeats [] (map (λ (p : Of RawFunction). (p.0, p.1.name)) (definitions units))) (flat_map (λ (p : Of RawFunction). function_body_faults v is_defined_by_term p (function_named v p.1.name.text)) (definitions units)) definitions_none) at)

  known_initials : (k : ℕ) (p : Of RawFunction) → slice_get (initials units) k ≡ Some p → IsKnownBody v p
  known_initials k p at =
      known_body v has_initial p (none_at (λ (p : Of RawFunction). function_body_faults v has_initial p (function_named v p.1.name.text)) (initials units) k p
      (none_right (repeats [] (map (λ (p : Of RawFunction). (p.0, p.1.name)) (initials units))) (flat_map (λ (p : Of RawFunction). function_body_faults v has_initial p (function_named v p.1.name.text)) (initials units)) initials_none) at)

  abbrev of_static : List Fault
  of_static = flat_map (static_faults v units) (definitions units)

  abbrev of_initial : List Fault
  of_initial = flat_map (initial_faults v units) (initials units)

  abbrev of_monitored : List Fault
  of_monitored = flat_map (calls.invariant_faults v units) (invariants units)

  static_none : of_static ≡ []
  static_none = none_left of_static (of_initial ++ of_monitored) none.reads

  initial_none : of_initial ≡ []
  initial_none = none_left of_initial of_monitored (none_right of_static (of_initial ++ of_monitored) none.reads)

  monitored_none : of_monitored ≡ []
  monitored_none = none_right of_initial of_monitored (none_right of_static (of_initial ++ of_monitored) none.reads)

  undefined_none : flat_map (undefined units) (functions units) ≡ []
  undefined_none = none_left (flat_map (undefined units) (functions units)) (flat_map (λ p. missing_main p ++ missing_init p) (named_of (λ u. u ∷ []) units)) none.missing

  abbrev m : Machine
  m = machine_of number units

  definitions_checked : All (IsCheckedDefinition m is_defined may_read) m.definitions
  definitions_checked k d lt =
      let t = functions_typed number numbering v ready units is_defined_by_term is_defined (defined_kind v.domains) (definitions units) definitions_none k d lt in
      let r = definitions_readable number v units placed known_definitions none.calls static_none k d lt in
      record { function = t.function; is_function = t.is_function; is_of_kind = t.is_of_kind; parameters = t.parameters; type = t.type; is_type = t.is_type; typed = t.typed; readable = r t.function t.is_function }

  initials_checked : All (IsCheckedDefinition m is_kept (λ kind. is_defined)) m.initial_terms
  initials_checked k d lt =
      let t = functions_typed number numbering v ready units has_initial is_kept (initial_kind v.domains) (initials units) initials_none k d lt in
      let r = initials_readable number v units placed known_definitions none.calls (initials units) known_initials initial_none k d lt in
      record { function = t.function; is_function = t.is_function; is_of_kind = t.is_of_kind; parameters = t.parameters; type = t.type; is_type = t.is_type; typed = t.typed; readable = r }

  -- the model that files are is checked, where nothing is wrong with them
  pub checked : IsChecked m
  checked = record {
    numbered = signature_numbered units;
    functions = signature_declared units none.functions;
    definitions = definitions_checked;
    defined_once = functions_distinct number v units is_defined_by_term (definitions units) definitions_none;
    defined = functions_defined number units placed known_definitions undefined_none;
    definitions_end = definitions_end number v units placed known_definitions none.calls;
    rules_end = rules_end number v units rules_none none.calls;
    initial_terms = initials_checked;
    initial_once = functions_distinct number v units has_initial (initials units) initials_none;
    rules = λ k d lt. (let t = macros_typed number numbering v ready units rules_none k d lt in record { declared = t.declared; typed = t.typed });
    invariants = λ k d lt. record {
      typed = invariants_typed number numbering v ready units declared (invariants units) invariants_none k d lt;
      readable = invariants_readable number v units placed known_definitions none.calls declared (invariants units) invariants_none monitored_none k d lt;
    };
    main = main_typed number numbering v ready units rules_none;
  }
