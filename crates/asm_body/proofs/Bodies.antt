-- What stands behind each token that opens a level.
use Rattle.std.proofs.Common.{◌≡◌, ℕ, Bool, List, [], ◌∷◌, refl}
use Rattle.asm_grammar.specs.Grammar.{nothing, both, either, shown}
use Rattle.asm_tree.specs.declared.class.Class.TheVariants as class
use Rattle.asm_tree.specs.Language.{TokenText, after, before, Implied, Compared, Negated, Opposite, OneOperand, TwoOperands, MinusOperands, Grouped, Arguments, Actuals, ForallTerm, ExistTerm, ConditionalTerm, SwitchTerm, Binds, Parallel, Sequence, Conditional, Switch, Forall, Choose}
use Rattle.asm_tree.specs.Terms.{implication, sum, negation, opposite, term, second_operand, group, terms, binders, guard, unique, other_term, case_term, more_case_terms, otherwise_term, bind, more_binds}
use Rattle.asm_tree.specs.Rules.{body, rule, more_rules, other_rule, case_rule, more_case_rules, otherwise_rule, if_none}
use Rattle.asm_body.specs.Reading.{read_in}

module _ (n : ℕ) (s : Bool) (w : List TokenText) where
  pub implied_body : read_in n s (body s Implied) w ≡ read_in n s (implication s) w
  unfolding body
  implied_body = refl

  pub compared_body : read_in n s (body s Compared) w ≡ read_in n s (sum s) w
  unfolding body
  compared_body = refl

  pub negated_body : read_in n s (body s Negated) w ≡ read_in n s (negation s) w
  unfolding body
  negated_body = refl

  pub opposed_body : read_in n s (body s Opposite) w ≡ read_in n s (opposite s) w
  unfolding body
  opposed_body = refl

  pub one_operand_body : read_in n s (body s OneOperand) w ≡ read_in n s (before (term s) class.Close) w
  unfolding body
  one_operand_body = refl

  pub two_operands_body : read_in n s (body s TwoOperands) w ≡ read_in n s (both (term s) (after class.Comma (before (term s) class.Close))) w
  unfolding body
  two_operands_body = refl

  pub minus_operands_body : read_in n s (body s MinusOperands) w ≡ read_in n s (both (term s) (before (second_operand s) class.Close)) w
  unfolding body
  minus_operands_body = refl

  pub grouped_body : read_in n s (body s Grouped) w ≡ read_in n s (before (group s) class.Close) w
  unfolding body
  grouped_body = refl

  pub arguments_body : read_in n s (body s Arguments) w ≡ read_in n s (before (terms s) class.Close) w
  unfolding body
  arguments_body = refl

  pub actuals_body : read_in n s (body s Actuals) w ≡ read_in n s (before (either (terms s) (nothing [] [])) class.CloseBracket) w
  unfolding body
  actuals_body = refl

  pub forall_term_body : read_in n s (body s ForallTerm) w ≡ read_in n s (both (binders s) (guard s)) w
  unfolding body
  forall_term_body = refl

  pub exist_term_body : read_in n s (body s ExistTerm) w ≡ read_in n s (both (unique s) (both (binders s) (guard s))) w
  unfolding body
  exist_term_body = refl

  pub conditional_term_body : read_in n s (body s ConditionalTerm) w ≡ read_in n s (both (term s) (after class.Then (both (term s) (before (other_term s) class.EndIf)))) w
  unfolding body
  conditional_term_body = refl

  pub switch_term_body : read_in n s (body s SwitchTerm) w ≡ read_in n s (both (term s) (both (shown (λ p. p.0 ∷ p.1) (both (case_term s) (more_case_terms s))) (before (otherwise_term s) class.EndSwitch))) w
  unfolding body
  switch_term_body = refl

  pub binds_body : read_in n s (body s Binds) w ≡ read_in n s (before (shown (λ p. p.0 ∷ p.1) (both (bind s) (more_binds s))) class.Close) w
  unfolding body
  binds_body = refl

  pub parallel_body : read_in n s (body s Parallel) w ≡ read_in n s (before (shown (λ p. p.0 ∷ p.1) (both (rule s) (more_rules s))) class.EndPar) w
  unfolding body
  parallel_body = refl

  pub sequence_body : read_in n s (body s Sequence) w ≡ read_in n s (before (shown (λ p. p.0 ∷ p.1) (both (rule s) (more_rules s))) class.EndSeq) w
  unfolding body
  sequence_body = refl

  pub conditional_body : read_in n s (body s Conditional) w ≡ read_in n s (both (term s) (after class.Then (both (rule s) (before (other_rule s) class.EndIf)))) w
  unfolding body
  conditional_body = refl

  pub switch_body : read_in n s (body s Switch) w ≡ read_in n s (both (term s) (both (shown (λ p. p.0 ∷ p.1) (both (case_rule s) (more_case_rules s))) (before (otherwise_rule s) class.EndSwitch))) w
  unfolding body
  switch_body = refl

  pub forall_body : read_in n s (body s Forall) w ≡ read_in n s (both (binders s) (both (guard s) (after class.Do (rule s)))) w
  unfolding body
  forall_body = refl

  pub choose_body : read_in n s (body s Choose) w ≡ read_in n s (both (binders s) (both (guard s) (after class.Do (both (rule s) (if_none s))))) w
  unfolding body
  choose_body = refl
