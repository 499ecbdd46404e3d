-- The grammars of terms and of rules pass the checks of the theory.
use Rattle.std.proofs.Common.{Bool, true, false, refl}
use Rattle.asm_grammar.specs.Text.{OneTree}
use Rattle.asm_grammar.proofs.Whole.{CheckedWhole, same_tree}
use Rattle.asm_tree.specs.Words.{class_of, number}
use Rattle.asm_tree.specs.Language.{models}
use Rattle.asm_tree.specs.Terms.{arguments, call, leaf, named, enclosed, primary, opposite, product_tail, product, sum_tail, sum, comparison_tail, comparison, negation, conjunction_tail, conjunction, disjunction_tail, disjunction, implication_tail, implication, equivalence_tail, equivalence, term}
use Rattle.asm_tree.specs.Rules.{update, macro_call, block, rule, body}
use Rattle.asm_tree.proofs.Checks.{table, late}
use Rattle.asm_tree.proofs.Wholes.{bodies}

pub checked_term : (script : Bool) → CheckedWhole models (body script) (term script) table late
unfolding number class_of arguments call leaf named enclosed primary opposite product_tail product sum_tail sum comparison_tail comparison negation conjunction_tail conjunction disjunction_tail disjunction implication_tail implication equivalence_tail equivalence term
checked_term true = record { bodies = bodies true; good = refl; closed = refl; settled = refl; unbarred = refl }
checked_term false = record { bodies = bodies false; good = refl; closed = refl; settled = refl; unbarred = refl }

pub checked_rule : (script : Bool) → CheckedWhole models (body script) (rule script) table late
unfolding number class_of arguments call leaf named enclosed primary opposite product_tail product sum_tail sum comparison_tail comparison negation conjunction_tail conjunction disjunction_tail disjunction implication_tail implication equivalence_tail equivalence term update macro_call block rule
checked_rule true = record { bodies = bodies true; good = refl; closed = refl; settled = refl; unbarred = refl }
checked_rule false = record { bodies = bodies false; good = refl; closed = refl; settled = refl; unbarred = refl }

pub one_term : (script : Bool) → OneTree models (body script) (term script)
one_term script = same_tree models (body script) (term script) table late (checked_term script)

pub one_rule : (script : Bool) → OneTree models (body script) (rule script)
one_rule script = same_tree models (body script) (rule script) table late (checked_rule script)
