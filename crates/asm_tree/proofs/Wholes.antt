-- The grammars of units, input files and scenarios pass the checks of the theory.
use Rattle.std.proofs.Common.{Bool, true, false, refl}
use Rattle.asm_grammar.proofs.Levels.{Checked}
use Rattle.asm_grammar.proofs.Whole.{CheckedWhole}
use Rattle.asm_tree.specs.Words.{class_of, number}
use Rattle.asm_tree.specs.Language.{models}
use Rattle.asm_tree.specs.Terms.{arguments, call, leaf, named, enclosed, primary, opposite, product_tail, product, sum_tail, sum, comparison_tail, comparison, negation, conjunction_tail, conjunction, disjunction_tail, disjunction, implication_tail, implication, equivalence_tail, equivalence, term}
use Rattle.asm_tree.specs.Rules.{int, update, macro_call, block, rule, constant, body}
use Rattle.asm_tree.specs.Units.{ending, part, more_parts, path, imports, more_words, export, more_elements, enumeration, subset, abstract_domain, dynamic_kind, function_kinds, arrow, function_type, function, declaration, declarations, more_ints, numbers, domain, parameters, function_body, plain_macro, macro, invariant_name, more_over, invariant, definition, definitions, main_rule, main, function_bodies, init, closing, content, unit}
use Rattle.asm_tree.specs.Scripts.{constants, setting, settings, semicolon, input_step, inputs, step_tail, command, commands, scenario_command_at, scenario_commands, scenario}
use Rattle.asm_tree.proofs.Checks.{table, late, plain, good, ends_in, senses_in, live, plain_live, unbarred}

pub bodies : (script : Bool) → Checked models (body script) table late
bodies script = record { good = good script; ends_in = ends_in script; senses_in = senses_in script; plain = plain; plain_live = plain_live script; live = live script; unbarred = unbarred script }

pub checked_unit : CheckedWhole models (body false) unit table late
unfolding number class_of ending part more_parts path imports more_words export more_elements enumeration subset abstract_domain dynamic_kind function_kinds arrow function_type function declaration declarations more_ints numbers domain parameters function_body plain_macro macro invariant_name more_over invariant definition definitions main_rule main function_bodies init closing content unit arguments call leaf named enclosed primary opposite product_tail product sum_tail sum comparison_tail comparison negation conjunction_tail conjunction disjunction_tail disjunction implication_tail implication equivalence_tail equivalence term int update macro_call block rule constant
checked_unit = record { bodies = bodies false; good = refl; closed = refl; settled = refl; unbarred = refl }

pub checked_inputs : CheckedWhole models (body true) inputs table late
unfolding number class_of constants setting settings semicolon input_step inputs step_tail command commands scenario_command_at scenario_commands scenario arguments call leaf named enclosed primary opposite product_tail product sum_tail sum comparison_tail comparison negation conjunction_tail conjunction disjunction_tail disjunction implication_tail implication equivalence_tail equivalence term int update macro_call block rule constant
checked_inputs = record { bodies = bodies true; good = refl; closed = refl; settled = refl; unbarred = refl }

pub checked_scenario : CheckedWhole models (body true) scenario table late
unfolding number class_of constants setting settings semicolon input_step inputs step_tail command commands scenario_command_at scenario_commands scenario ending part more_parts path arguments call leaf named enclosed primary opposite product_tail product sum_tail sum comparison_tail comparison negation conjunction_tail conjunction disjunction_tail disjunction implication_tail implication equivalence_tail equivalence term int update macro_call block rule constant
checked_scenario = record { bodies = bodies true; good = refl; closed = refl; settled = refl; unbarred = refl }
