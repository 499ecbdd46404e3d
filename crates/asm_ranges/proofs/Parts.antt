-- What is refused in files, part by part.
use Rattle.std.proofs.Common.{◌≡◌, ℕ, ◌+◌, ◌<◌, ◌≤◌, List, [], ◌∷◌, ◌++◌, length, map, take, get_or, Option, Some, None, refl, sym, ap, ◌∙◌, flat_map, arith}
use Rattle.std.proofs.lemmas.Grind.{flat_map-append}
use Rattle.std.proofs.lemmas.List.Folds.{flat_map-map}
use Rattle.std.proofs.lemmas.List.{append-nil, take_all}
use Rattle.asm_sign.specs.Vocabulary.{Vocabulary}
use Rattle.asm_tree.specs.declared.unit.RawDefinition.{RawDefinition}
use Rattle.asm_tree.specs.declared.unit.RawDefinition.TheVariants as definition
use Rattle.asm_tree.specs.declared.unit.RawMain.{RawMain}
use Rattle.asm_tree.specs.declared.unit.RawInit.{RawInit}
use Rattle.asm_tree.specs.declared.unit.RawUnit.{RawUnit}
use Rattle.asm_tree.specs.declared.unit.RawFunction.{RawFunction}
use Rattle.asm_tree.specs.declared.unit.LoadedUnit.{LoadedUnit}
use Rattle.asm_faults.specs.declared.fault.Fault.{Fault}
use Rattle.asm_faults.specs.First.{noted}
use Rattle.asm_faults.specs.Files.{Of, to_list, all_of, named_of, definition_in, definitions, rule_in, rules, main_in, invariant_in, invariants, initials, DeclaredRule}
use Rattle.asm_faults.specs.Ranges.{within, term_faults, rule_faults, function_faults, range_faults}
use Rattle.asm_faults.proofs.Noting.{noted_append}
use Rattle.asm_ranges.specs.declared.files.Part.{Part}
use Rattle.asm_ranges.specs.declared.files.Part.TheVariants.{Functions, Rules, Invariants}
use Rattle.asm_ranges.specs.Parts.{function_part, rule_part, invariant_part, part_faults, all_part_faults, declared_faults, main_faults, stated_faults}
use Rattle.asm_ranges.proofs.Walks.{of_all_more, named_last}

four : (a a' b b' c c' d : List Fault) → a ≡ a' → b ≡ b' → c ≡ c' → a ++ (b ++ (c ++ d)) ≡ a' ++ (b' ++ (c' ++ d))
four a a' b b' c c' d e f g = λ i. e i ++ (f i ++ (g i ++ d))

five : (f0 f1 f2 f3 f4 f5 : Option Fault) (a b m c d : List Fault) → f1 ≡ noted f0 a → f2 ≡ noted f1 b → f3 ≡ noted f2 m → f4 ≡ noted f3 c → f5 ≡ noted f4 d → f5 ≡ noted f0 (a ++ ((b ++ m) ++ (c ++ d)))
five f0 f1 f2 f3 f4 f5 a b m c d e1 e2 e3 e4 e5 =
    e5
    ∙ ap (λ (f : Option Fault). noted f d) (e4 ∙ ap (λ (f : Option Fault). noted f c) (e3 ∙ ap (λ (f : Option Fault). noted f m) (e2 ∙ ap (λ (f : Option Fault). noted f b) e1)))
    ∙ sym (noted_append (noted (noted (noted f0 a) b) m) c d)
    ∙ ap (λ (f : Option Fault). noted f (c ++ d)) (sym (noted_append (noted f0 a) b m))
    ∙ sym (noted_append (noted f0 a) (b ++ m) (c ++ d))
    ∙ sym (noted_append f0 a ((b ++ m) ++ (c ++ d)))

module _ (v : Vocabulary) where
  of_functions : (ds : List (Of RawDefinition)) → flat_map (function_faults v) (flat_map definition_in ds) ≡ flat_map (function_part v) ds
  of_functions [] = refl
  of_functions ((n, definition.Range d low high) ∷ ds) = of_functions ds
  of_functions ((n, definition.List d xs) ∷ ds) = of_functions ds
  of_functions ((n, definition.Function f) ∷ ds) = ap (λ (xs : List Fault). function_faults v (n, f) ++ xs) (of_functions ds)
  of_functions ((n, definition.Rule r ps body) ∷ ds) = of_functions ds
  of_functions ((n, definition.Invariant i) ∷ ds) = of_functions ds

  of_rules : (ds : List (Of RawDefinition)) → flat_map (declared_faults v) (flat_map rule_in ds) ≡ flat_map (rule_part v) ds
  of_rules [] = refl
  of_rules ((n, definition.Range d low high) ∷ ds) = of_rules ds
  of_rules ((n, definition.List d xs) ∷ ds) = of_rules ds
  of_rules ((n, definition.Function f) ∷ ds) = of_rules ds
  of_rules ((n, definition.Rule r ps body) ∷ ds) = ap (λ (xs : List Fault). rule_faults v n body (within v ps []) ++ xs) (of_rules ds)
  of_rules ((n, definition.Invariant i) ∷ ds) = of_rules ds

  of_invariants : (ds : List (Of RawDefinition)) → flat_map (stated_faults v) (flat_map invariant_in ds) ≡ flat_map (invariant_part v) ds
  of_invariants [] = refl
  of_invariants ((n, definition.Range d low high) ∷ ds) = of_invariants ds
  of_invariants ((n, definition.List d xs) ∷ ds) = of_invariants ds
  of_invariants ((n, definition.Function f) ∷ ds) = of_invariants ds
  of_invariants ((n, definition.Rule r ps body) ∷ ds) = of_invariants ds
  of_invariants ((n, definition.Invariant i) ∷ ds) = ap (λ (xs : List Fault). term_faults v n i.term [] ++ xs) (of_invariants ds)

  of_all_rules : (ds : List (Of RawDefinition)) (ms : List DeclaredRule) → flat_map (declared_faults v) (flat_map rule_in ds ++ ms) ≡ flat_map (rule_part v) ds ++ flat_map (declared_faults v) ms
  of_all_rules ds ms = flat_map-append (declared_faults v) (flat_map rule_in ds) ms ∙ ap (λ (xs : List Fault). xs ++ flat_map (declared_faults v) ms) (of_rules ds)

  -- what is refused in files, as it is looked for
  parts : (units : List LoadedUnit)
      → range_faults v units ≡ all_part_faults Functions v units ++ ((all_part_faults Rules v units ++ main_faults v units) ++ (all_part_faults Invariants v units ++ flat_map (function_faults v) (initials units)))
  parts units =
      four (flat_map (function_faults v) (definitions units)) (all_part_faults Functions v units)
      (flat_map (declared_faults v) (rules units)) (all_part_faults Rules v units ++ main_faults v units)
      (flat_map (stated_faults v) (invariants units)) (all_part_faults Invariants v units)
      (flat_map (function_faults v) (initials units))
      (of_functions (all_of (λ (u : RawUnit). u.definitions) units))
      (of_all_rules (all_of (λ (u : RawUnit). u.definitions) units) (map main_in (named_of (λ (u : RawUnit). to_list u.main) units)))
      (of_invariants (all_of (λ (u : RawUnit). u.definitions) units))

  pub noted_parts : (units : List LoadedUnit) (f0 f1 f2 f3 f4 f5 : Option Fault) → f1 ≡ noted f0 (all_part_faults Functions v units) → f2 ≡ noted f1 (all_part_faults Rules v units)
      → f3 ≡ noted f2 (main_faults v units) → f4 ≡ noted f3 (all_part_faults Invariants v units) → f5 ≡ noted f4 (flat_map (function_faults v) (initials units)) → f5 ≡ noted f0 (range_faults v units)
  noted_parts units f0 f1 f2 f3 f4 f5 e1 e2 e3 e4 e5 =
      five f0 f1 f2 f3 f4 f5 (all_part_faults Functions v units) (all_part_faults Rules v units) (main_faults v units) (all_part_faults Invariants v units) (flat_map (function_faults v) (initials units)) e1 e2 e3 e4 e5
      ∙ ap (noted f0) (sym (parts units))

  -- one file further
  pub unit_next : (part : Part) (units : List LoadedUnit) (i : ℕ) (u : LoadedUnit) (f0 f1 f2 : Option Fault) → i < length units → u ≡ get_or units i u
      → f1 ≡ noted f0 (all_part_faults part v (take i units)) → f2 ≡ noted f1 (flat_map (λ (d : RawDefinition). part_faults part v (i, d)) u.unit.definitions)
      → f2 ≡ noted f0 (all_part_faults part v (take (i + 1) units))
  unit_next part units i u f0 f1 f2 h is e1 e2 =
      let front = all_part_faults part v (take i units) in
      let more = flat_map (λ (d : RawDefinition). part_faults part v (i, d)) u.unit.definitions in
      e2 ∙ ap (λ (f : Option Fault). noted f more) e1 ∙ sym (noted_append f0 front more)
      ∙ ap (noted f0) (sym (of_all_more (part_faults part v) (λ (x : RawUnit). x.definitions) units i u h is))

  pub all_units : (part : Part) (units : List LoadedUnit) (i : ℕ) (f0 f1 : Option Fault) → length units ≤ i → f1 ≡ noted f0 (all_part_faults part v (take i units)) → f1 ≡ noted f0 (all_part_faults part v units)
  all_units part units i f0 f1 h e = e ∙ ap (λ (us : List LoadedUnit). noted f0 (all_part_faults part v us)) (take_all i units h)

  -- ---- the last file

  pub no_main : (units : List LoadedUnit) (f : Option Fault) → length units ≡ 0 → f ≡ noted f (main_faults v units)
  no_main [] f e = refl
  no_main (u ∷ us) f e = absurd (omega arith)

  pub no_initials : (units : List LoadedUnit) (f : Option Fault) → length units ≡ 0 → f ≡ noted f (flat_map (function_faults v) (initials units))
  no_initials [] f e = refl
  no_initials (u ∷ us) f e = absurd (omega arith)

  main_is : (units : List LoadedUnit) (i : ℕ) (u : LoadedUnit) (o : Option RawMain) → i + 1 ≡ length units → u ≡ get_or units i u → u.unit.main ≡ o
      → main_faults v units ≡ flat_map (declared_faults v) (map main_in (map (λ (a : RawMain). (i, a)) (to_list o)))
  main_is units i u o end is e =
      ap (λ (xs : List (Of RawMain)). flat_map (declared_faults v) (map main_in xs)) (named_last (λ (x : RawUnit). to_list x.main) units i u end is)
      ∙ ap (λ (m : Option RawMain). flat_map (declared_faults v) (map main_in (map (λ (a : RawMain). (i, a)) (to_list m)))) e

  pub main_there : (units : List LoadedUnit) (i : ℕ) (u : LoadedUnit) (m : RawMain) → i + 1 ≡ length units → u ≡ get_or units i u → u.unit.main ≡ Some m → main_faults v units ≡ rule_faults v i m.rule []
  main_there units i u m end is e = main_is units i u (Some m) end is e ∙ append-nil (rule_faults v i m.rule [])

  pub main_absent : (units : List LoadedUnit) (i : ℕ) (u : LoadedUnit) → i + 1 ≡ length units → u ≡ get_or units i u → u.unit.main ≡ None → main_faults v units ≡ []
  main_absent units i u end is e = main_is units i u None end is e

  initials_is : (units : List LoadedUnit) (i : ℕ) (u : LoadedUnit) (o : Option RawInit) → i + 1 ≡ length units → u ≡ get_or units i u → u.unit.init ≡ o
      → flat_map (function_faults v) (initials units) ≡ flat_map (λ (f : RawFunction). function_faults v (i, f)) (flat_map (λ (x : RawInit). x.functions) (to_list o))
  initials_is units i u o end is e =
      ap (flat_map (function_faults v)) (named_last (λ (x : RawUnit). flat_map (λ (y : RawInit). y.functions) (to_list x.init)) units i u end is)
      ∙ flat_map-map (function_faults v) (λ (a : RawFunction). (i, a)) (flat_map (λ (x : RawInit). x.functions) (to_list u.unit.init))
      ∙ ap (λ (y : Option RawInit). flat_map (λ (f : RawFunction). function_faults v (i, f)) (flat_map (λ (x : RawInit). x.functions) (to_list y))) e

  pub initials_there : (units : List LoadedUnit) (i : ℕ) (u : LoadedUnit) (x : RawInit) → i + 1 ≡ length units → u ≡ get_or units i u → u.unit.init ≡ Some x
      → flat_map (function_faults v) (initials units) ≡ flat_map (λ (f : RawFunction). function_faults v (i, f)) x.functions
  initials_there units i u x end is e =
      initials_is units i u (Some x) end is e ∙ ap (flat_map (λ (f : RawFunction). function_faults v (i, f))) (append-nil x.functions)

  pub initials_absent : (units : List LoadedUnit) (i : ℕ) (u : LoadedUnit) → i + 1 ≡ length units → u ≡ get_or units i u → u.unit.init ≡ None → flat_map (function_faults v) (initials units) ≡ []
  initials_absent units i u end is e = initials_is units i u None end is e
