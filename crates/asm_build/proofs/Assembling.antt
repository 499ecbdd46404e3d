-- The parts that were added make up the machine.
use Rattle.std.proofs.Common.{◌≡◌, ℕ, List, [], ◌++◌, map, sym, ap, ◌∙◌, subst, flat_map}
use Rattle.std.proofs.lemmas.List.{map-append}
use Rattle.std.specs.declared.rc.Rc.{Rc}
use Rattle.std.specs.declared.alloc.Global.{Global}
use Rattle.asm_sign.specs.Vocabulary.{Vocabulary}
use Rattle.asm_node.specs.declared.definition.Definition.{Definition}
use Rattle.asm_node.specs.declared.definition.MacroRule.{MacroRule}
use Rattle.asm_node.specs.declared.pool.Pool.{Pool}
use Rattle.asm_node.specs.declared.term.Term.{Term}
use Rattle.asm_node.specs.declared.rule.Rule as of_rule
use Rattle.asm_node.specs.RuleTree.{plain_rule}
use Rattle.asm_node.specs.Parts.{defined_by, macro_by, machine_from, AreNodes}
use Rattle.asm_tree.specs.declared.unit.RawInvariant.{RawInvariant}
use Rattle.asm_tree.specs.declared.unit.LoadedUnit.{LoadedUnit}
use Rattle.asm_faults.specs.At.{Name}
use Rattle.asm_faults.specs.Files.{Of, DeclaredRule, rule_in, main_in, all_of, named_of}
use Rattle.asm_faults.specs.Files as files
use Rattle.asm_faults.specs.Model.{tree_of, definition_of, macro_of, main_rules, first_or_skip, machine_in}
use Rattle.asm_build.specs.declared.maker.Maker.{Maker}
use Rattle.asm_build.specs.Made.{Agrees, HasGrown}
use Rattle.asm_build.specs.Added.{tree_in, HasBody, HasMacro, HasNode, AddsDefinitions, AddsMacros, AddsTerms, IsMain}
use Rattle.asm_build.specs.Assembled.{IsMachineOf}
use Rattle.asm_build.proofs.Growing.{same_maker, grown_on}
use Rattle.asm_build.proofs.Adding.{body_stays, macro_stays, node_stays, all_held, all_wanted, macros_on}
use Rattle.asm_build.proofs.Numbering.{numbered, agrees_with, is_numbering}
use Rattle.asm_build.proofs.Gathering.{mains_of}

same_machine : (number : Name → ℕ) (v : Vocabulary) (units : List LoadedUnit) (main : Rc of_rule.Rule Global) (invariants : List (Rc Term Global)) (initial_terms definitions : List Definition) (rules : List MacroRule)
    → plain_rule main.value ≡ first_or_skip number v units (main_rules number v units)
    → map tree_in invariants ≡ map (λ (p : Of RawInvariant). tree_of number v p.1.term) (files.invariants units)
    → map defined_by initial_terms ≡ map (definition_of number v units) (files.initials units)
    → map defined_by definitions ≡ map (definition_of number v units) (files.definitions units)
    → map macro_by rules ≡ map (macro_of number v units) (files.rules units)
    → machine_from v main invariants initial_terms definitions rules ≡ machine_in number v units
same_machine number v units main invariants initial_terms definitions rules a b c d e =
    λ i. record { signature = v; definitions = d i; initial_terms = c i; rules = e i; invariants = b i; main = a i }

module _
    (v : Vocabulary) (units : List LoadedUnit)
    (zero first second third fourth last : Maker)
    (main : Rc of_rule.Rule Global)
    (no_definitions definitions no_initials initials : List Definition)
    (no_invariants invariants : List (Rc Term Global))
    (no_rules macros rules : List MacroRule)
    (one : AddsDefinitions zero first (λ number. map (definition_of number v units) (files.definitions units)) no_definitions definitions)
    (two : AddsDefinitions first second (λ number. map (definition_of number v units) (files.initials units)) no_initials initials)
    (three : AddsTerms second third (λ number. map (λ (p : Of RawInvariant). tree_of number v p.1.term) (files.invariants units)) no_invariants invariants)
    (four : AddsMacros third fourth (λ number. map (macro_of number v units) (flat_map rule_in (all_of (λ u. u.definitions) units))) no_rules macros)
    (five : AddsMacros fourth last (λ number. map (macro_of number v units) (map main_in (named_of mains_of units))) macros rules)
    (six : IsMain last v units main.value)
    (none : no_definitions ≡ [])
    (none' : no_initials ≡ [])
    (none'' : no_invariants ≡ [])
    (none''' : no_rules ≡ []) where
  after_second : HasGrown second last
  after_second = grown_on three.grown (grown_on four.grown five.grown)

  all_rules : AddsMacros third last (λ number. map (macro_of number v units) (flat_map rule_in (all_of (λ u. u.definitions) units)) ++ map (macro_of number v units) (map main_in (named_of mains_of units))) no_rules rules
  all_rules = macros_on four five

  pub are_nodes : (pool : Pool) → pool ≡ last.pool → AreNodes pool main invariants initials definitions rules
  are_nodes pool same = subst (λ (p : Pool). AreNodes p main invariants initials definitions rules) (sym same) (record {
    main_is = six.is_of_pool;
    invariants_are = all_held {held = HasNode} {shown = tree_in} {o = last} node_stays three none'' (grown_on four.grown five.grown);
    initial_terms_are = all_held {held = HasBody} {shown = defined_by} {o = last} body_stays two none' after_second;
    definitions_are = all_held {held = HasBody} {shown = defined_by} {o = last} body_stays one none (grown_on two.grown after_second);
    rules_are = all_held {held = HasMacro} {shown = macro_by} {o = last} macro_stays all_rules none''' (same_maker last);
  })

  pub are_machine : machine_from v main invariants initials definitions rules ≡ machine_in (numbered last.variables) v units
  are_machine =
      let number : Name → ℕ = numbered last.variables in
      let agrees : Agrees number last.variables = agrees_with last.variables in
      same_machine number v units main invariants initials definitions rules (six.is_tree number agrees)
      (all_wanted {held = HasNode} {shown = tree_in} number three none'' (grown_on four.grown five.grown) agrees)
      (all_wanted {held = HasBody} {shown = defined_by} number two none' after_second agrees)
      (all_wanted {held = HasBody} {shown = defined_by} number one none (grown_on two.grown after_second) agrees)
      (all_wanted {held = HasMacro} {shown = macro_by} number all_rules none''' (same_maker last) agrees
      ∙ sym (map-append (macro_of number v units) (flat_map rule_in (all_of (λ u. u.definitions) units)) (map main_in (named_of mains_of units))))

  pub are_machine_of : (all : List LoadedUnit) → units ≡ all → (pool : Pool) → IsMachineOf v all (record { pool = pool; main = main; invariants = invariants; initial_terms = initials; definitions = definitions; rules = rules })
  are_machine_of all same pool = record {
    number = numbered last.variables;
    is_numbering = is_numbering last.variables;
    is_machine = are_machine ∙ ap (machine_in (numbered last.variables) v) same;
  }
