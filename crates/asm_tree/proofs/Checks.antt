-- The grammar passes the checks of the theory.
use Rattle.std.proofs.Common.{◌≡◌, ℕ, Bool, true, false, List, [], ◌∷◌, ◌++◌, refl}
use Rattle.asm_grammar.proofs.Sets.{subset}
use Rattle.asm_grammar.proofs.Theory.{is_good, ends, senses, is_live, barred}
use Rattle.asm_tree.specs.Words.{class_of, number, kind_of}
use Rattle.asm_tree.specs.declared.class.Class.TheVariants as class
use Rattle.asm_tree.specs.Language.{models, Inside, Equivalent, Implied, Disjoined, Joined, Compared, Added, Multiplied, Negated, Opposite, NamedOne, NamedTwo, NamedMinus, OneOperand, TwoOperands, MinusOperands, Grouped, Arguments, Actuals, ForallTerm, ExistTerm, ConditionalTerm, SwitchTerm, LetTerm, Binds, Parameters, Product, Constants, Parallel, Sequence, Conditional, Switch, Let, Forall, Choose}
use Rattle.asm_tree.specs.Terms.{comparisons, arguments, call, leaf, named, enclosed, primary, opposite, product_tail, product, sum_tail, sum, comparison_tail, comparison, negation, conjunction_tail, conjunction, disjunction_tail, disjunction, implication_tail, implication, equivalence_tail, equivalence, term, binder, more_binders, binders, guard, bind, more_binds, more_terms, terms, other_term, otherwise_term, case_term, more_case_terms, second_operand, unique, quantifier_term, group}
use Rattle.asm_tree.specs.Rules.{int, update, macro_call, block, rule, more_rules, other_rule, otherwise_rule, if_none, case_rule, more_case_rules, constant, more_constants, more_domains, body}

-- what may go on with an operand of each level where it could also end
abbrev pub primaries : List ℕ
primaries = kind_of class.Open ∷ []

abbrev pub products : List ℕ
products = kind_of class.Times ∷ kind_of class.Mod ∷ primaries

abbrev pub sums : List ℕ
sums = kind_of class.Plus ∷ kind_of class.Minus ∷ products

abbrev pub compared : List ℕ
compared = comparisons ++ sums

abbrev pub conjunctions : List ℕ
conjunctions = kind_of class.And ∷ compared

abbrev pub disjunctions : List ℕ
disjunctions = kind_of class.Or ∷ kind_of class.Xor ∷ conjunctions

abbrev pub implications : List ℕ
implications = kind_of class.Implies ∷ disjunctions

abbrev pub whole_terms : List ℕ
whole_terms = kind_of class.Iff ∷ implications

-- what may go on with a text of a body where it could also end
abbrev pub table : Inside → List ℕ
table Equivalent = whole_terms
table Implied = implications
table Disjoined = disjunctions
table Joined = conjunctions
table Compared = sums
table Added = sums
table Multiplied = products
table Negated = compared
table Opposite = primaries
table ForallTerm = kind_of class.With ∷ kind_of class.Comma ∷ whole_terms
table ExistTerm = kind_of class.With ∷ kind_of class.Comma ∷ whole_terms
table Forall = whole_terms
table Choose = whole_terms
table x = []

-- what may follow on which it depends whether a text is one of a body
abbrev pub late : Inside → List ℕ
late Forall = kind_of class.IfNone ∷ []
late Choose = kind_of class.IfNone ∷ []
late x = []

-- an opening stands at their front, and behind it what opens no further level
abbrev pub plain : Inside → Bool
plain NamedOne = false
plain NamedTwo = false
plain NamedMinus = false
plain LetTerm = false
plain Let = false
plain x = true

pub good : (script : Bool) (x : Inside) → is_good models table late (body script x) ≡ true
unfolding number class_of arguments call leaf named enclosed primary opposite product_tail product sum_tail sum comparison_tail comparison negation conjunction_tail conjunction disjunction_tail disjunction implication_tail implication equivalence_tail equivalence term binder more_binders binders guard bind more_binds more_terms terms other_term otherwise_term case_term more_case_terms second_operand unique quantifier_term group int update macro_call block rule more_rules other_rule otherwise_rule if_none case_rule more_case_rules constant more_constants more_domains body
good true Equivalent = refl
good true Implied = refl
good true Disjoined = refl
good true Joined = refl
good true Compared = refl
good true Added = refl
good true Multiplied = refl
good true Negated = refl
good true Opposite = refl
good true NamedOne = refl
good true NamedTwo = refl
good true NamedMinus = refl
good true OneOperand = refl
good true TwoOperands = refl
good true MinusOperands = refl
good true Grouped = refl
good true Arguments = refl
good true Actuals = refl
good true ForallTerm = refl
good true ExistTerm = refl
good true ConditionalTerm = refl
good true SwitchTerm = refl
good true LetTerm = refl
good true Binds = refl
good true Parameters = refl
good true Product = refl
good true Constants = refl
good true Parallel = refl
good true Sequence = refl
good true Conditional = refl
good true Switch = refl
good true Let = refl
good true Forall = refl
good true Choose = refl
good false Equivalent = refl
good false Implied = refl
good false Disjoined = refl
good false Joined = refl
good false Compared = refl
good false Added = refl
good false Multiplied = refl
good false Negated = refl
good false Opposite = refl
good false NamedOne = refl
good false NamedTwo = refl
good false NamedMinus = refl
good false OneOperand = refl
good false TwoOperands = refl
good false MinusOperands = refl
good false Grouped = refl
good false Arguments = refl
good false Actuals = refl
good false ForallTerm = refl
good false ExistTerm = refl
good false ConditionalTerm = refl
good false SwitchTerm = refl
good false LetTerm = refl
good false Binds = refl
good false Parameters = refl
good false Product = refl
good false Constants = refl
good false Parallel = refl
good false Sequence = refl
good false Conditional = refl
good false Switch = refl
good false Let = refl
good false Forall = refl
good false Choose = refl

pub ends_in : (script : Bool) (x : Inside) → subset (ends models table (body script x)) (table x) ≡ true
unfolding number arguments call leaf named enclosed primary opposite product_tail product sum_tail sum comparison_tail comparison negation conjunction_tail conjunction disjunction_tail disjunction implication_tail implication equivalence_tail equivalence term binder more_binders binders guard bind more_binds more_terms terms other_term otherwise_term case_term more_case_terms second_operand unique quantifier_term group int update macro_call block rule more_rules other_rule otherwise_rule if_none case_rule more_case_rules constant more_constants more_domains body
ends_in true Equivalent = refl
ends_in true Implied = refl
ends_in true Disjoined = refl
ends_in true Joined = refl
ends_in true Compared = refl
ends_in true Added = refl
ends_in true Multiplied = refl
ends_in true Negated = refl
ends_in true Opposite = refl
ends_in true NamedOne = refl
ends_in true NamedTwo = refl
ends_in true NamedMinus = refl
ends_in true OneOperand = refl
ends_in true TwoOperands = refl
ends_in true MinusOperands = refl
ends_in true Grouped = refl
ends_in true Arguments = refl
ends_in true Actuals = refl
ends_in true ForallTerm = refl
ends_in true ExistTerm = refl
ends_in true ConditionalTerm = refl
ends_in true SwitchTerm = refl
ends_in true LetTerm = refl
ends_in true Binds = refl
ends_in true Parameters = refl
ends_in true Product = refl
ends_in true Constants = refl
ends_in true Parallel = refl
ends_in true Sequence = refl
ends_in true Conditional = refl
ends_in true Switch = refl
ends_in true Let = refl
ends_in true Forall = refl
ends_in true Choose = refl
ends_in false Equivalent = refl
ends_in false Implied = refl
ends_in false Disjoined = refl
ends_in false Joined = refl
ends_in false Compared = refl
ends_in false Added = refl
ends_in false Multiplied = refl
ends_in false Negated = refl
ends_in false Opposite = refl
ends_in false NamedOne = refl
ends_in false NamedTwo = refl
ends_in false NamedMinus = refl
ends_in false OneOperand = refl
ends_in false TwoOperands = refl
ends_in false MinusOperands = refl
ends_in false Grouped = refl
ends_in false Arguments = refl
ends_in false Actuals = refl
ends_in false ForallTerm = refl
ends_in false ExistTerm = refl
ends_in false ConditionalTerm = refl
ends_in false SwitchTerm = refl
ends_in false LetTerm = refl
ends_in false Binds = refl
ends_in false Parameters = refl
ends_in false Product = refl
ends_in false Constants = refl
ends_in false Parallel = refl
ends_in false Sequence = refl
ends_in false Conditional = refl
ends_in false Switch = refl
ends_in false Let = refl
ends_in false Forall = refl
ends_in false Choose = refl

pub senses_in : (script : Bool) (x : Inside) → subset (senses models late (body script x)) (late x) ≡ true
unfolding number arguments call leaf named enclosed primary opposite product_tail product sum_tail sum comparison_tail comparison negation conjunction_tail conjunction disjunction_tail disjunction implication_tail implication equivalence_tail equivalence term binder more_binders binders guard bind more_binds more_terms terms other_term otherwise_term case_term more_case_terms second_operand unique quantifier_term group int update macro_call block rule more_rules other_rule otherwise_rule if_none case_rule more_case_rules constant more_constants more_domains body
senses_in true Equivalent = refl
senses_in true Implied = refl
senses_in true Disjoined = refl
senses_in true Joined = refl
senses_in true Compared = refl
senses_in true Added = refl
senses_in true Multiplied = refl
senses_in true Negated = refl
senses_in true Opposite = refl
senses_in true NamedOne = refl
senses_in true NamedTwo = refl
senses_in true NamedMinus = refl
senses_in true OneOperand = refl
senses_in true TwoOperands = refl
senses_in true MinusOperands = refl
senses_in true Grouped = refl
senses_in true Arguments = refl
senses_in true Actuals = refl
senses_in true ForallTerm = refl
senses_in true ExistTerm = refl
senses_in true ConditionalTerm = refl
senses_in true SwitchTerm = refl
senses_in true LetTerm = refl
senses_in true Binds = refl
senses_in true Parameters = refl
senses_in true Product = refl
senses_in true Constants = refl
senses_in true Parallel = refl
senses_in true Sequence = refl
senses_in true Conditional = refl
senses_in true Switch = refl
senses_in true Let = refl
senses_in true Forall = refl
senses_in true Choose = refl
senses_in false Equivalent = refl
senses_in false Implied = refl
senses_in false Disjoined = refl
senses_in false Joined = refl
senses_in false Compared = refl
senses_in false Added = refl
senses_in false Multiplied = refl
senses_in false Negated = refl
senses_in false Opposite = refl
senses_in false NamedOne = refl
senses_in false NamedTwo = refl
senses_in false NamedMinus = refl
senses_in false OneOperand = refl
senses_in false TwoOperands = refl
senses_in false MinusOperands = refl
senses_in false Grouped = refl
senses_in false Arguments = refl
senses_in false Actuals = refl
senses_in false ForallTerm = refl
senses_in false ExistTerm = refl
senses_in false ConditionalTerm = refl
senses_in false SwitchTerm = refl
senses_in false LetTerm = refl
senses_in false Binds = refl
senses_in false Parameters = refl
senses_in false Product = refl
senses_in false Constants = refl
senses_in false Parallel = refl
senses_in false Sequence = refl
senses_in false Conditional = refl
senses_in false Switch = refl
senses_in false Let = refl
senses_in false Forall = refl
senses_in false Choose = refl

pub live : (script : Bool) (x : Inside) → is_live models plain (body script x) ≡ true
unfolding number arguments call leaf named enclosed primary opposite product_tail product sum_tail sum comparison_tail comparison negation conjunction_tail conjunction disjunction_tail disjunction implication_tail implication equivalence_tail equivalence term binder more_binders binders guard bind more_binds more_terms terms other_term otherwise_term case_term more_case_terms second_operand unique quantifier_term group int update macro_call block rule more_rules other_rule otherwise_rule if_none case_rule more_case_rules constant more_constants more_domains body
live true Equivalent = refl
live true Implied = refl
live true Disjoined = refl
live true Joined = refl
live true Compared = refl
live true Added = refl
live true Multiplied = refl
live true Negated = refl
live true Opposite = refl
live true NamedOne = refl
live true NamedTwo = refl
live true NamedMinus = refl
live true OneOperand = refl
live true TwoOperands = refl
live true MinusOperands = refl
live true Grouped = refl
live true Arguments = refl
live true Actuals = refl
live true ForallTerm = refl
live true ExistTerm = refl
live true ConditionalTerm = refl
live true SwitchTerm = refl
live true LetTerm = refl
live true Binds = refl
live true Parameters = refl
live true Product = refl
live true Constants = refl
live true Parallel = refl
live true Sequence = refl
live true Conditional = refl
live true Switch = refl
live true Let = refl
live true Forall = refl
live true Choose = refl
live false Equivalent = refl
live false Implied = refl
live false Disjoined = refl
live false Joined = refl
live false Compared = refl
live false Added = refl
live false Multiplied = refl
live false Negated = refl
live false Opposite = refl
live false NamedOne = refl
live false NamedTwo = refl
live false NamedMinus = refl
live false OneOperand = refl
live false TwoOperands = refl
live false MinusOperands = refl
live false Grouped = refl
live false Arguments = refl
live false Actuals = refl
live false ForallTerm = refl
live false ExistTerm = refl
live false ConditionalTerm = refl
live false SwitchTerm = refl
live false LetTerm = refl
live false Binds = refl
live false Parameters = refl
live false Product = refl
live false Constants = refl
live false Parallel = refl
live false Sequence = refl
live false Conditional = refl
live false Switch = refl
live false Let = refl
live false Forall = refl
live false Choose = refl

pub unbarred : (script : Bool) (x : Inside) → subset (barred models (body script x)) [] ≡ true
unfolding number arguments call leaf named enclosed primary opposite product_tail product sum_tail sum comparison_tail comparison negation conjunction_tail conjunction disjunction_tail disjunction implication_tail implication equivalence_tail equivalence term binder more_binders binders guard bind more_binds more_terms terms other_term otherwise_term case_term more_case_terms second_operand unique quantifier_term group int update macro_call block rule more_rules other_rule otherwise_rule if_none case_rule more_case_rules constant more_constants more_domains body
unbarred true Equivalent = refl
unbarred true Implied = refl
unbarred true Disjoined = refl
unbarred true Joined = refl
unbarred true Compared = refl
unbarred true Added = refl
unbarred true Multiplied = refl
unbarred true Negated = refl
unbarred true Opposite = refl
unbarred true NamedOne = refl
unbarred true NamedTwo = refl
unbarred true NamedMinus = refl
unbarred true OneOperand = refl
unbarred true TwoOperands = refl
unbarred true MinusOperands = refl
unbarred true Grouped = refl
unbarred true Arguments = refl
unbarred true Actuals = refl
unbarred true ForallTerm = refl
unbarred true ExistTerm = refl
unbarred true ConditionalTerm = refl
unbarred true SwitchTerm = refl
unbarred true LetTerm = refl
unbarred true Binds = refl
unbarred true Parameters = refl
unbarred true Product = refl
unbarred true Constants = refl
unbarred true Parallel = refl
unbarred true Sequence = refl
unbarred true Conditional = refl
unbarred true Switch = refl
unbarred true Let = refl
unbarred true Forall = refl
unbarred true Choose = refl
unbarred false Equivalent = refl
unbarred false Implied = refl
unbarred false Disjoined = refl
unbarred false Joined = refl
unbarred false Compared = refl
unbarred false Added = refl
unbarred false Multiplied = refl
unbarred false Negated = refl
unbarred false Opposite = refl
unbarred false NamedOne = refl
unbarred false NamedTwo = refl
unbarred false NamedMinus = refl
unbarred false OneOperand = refl
unbarred false TwoOperands = refl
unbarred false MinusOperands = refl
unbarred false Grouped = refl
unbarred false Arguments = refl
unbarred false Actuals = refl
unbarred false ForallTerm = refl
unbarred false ExistTerm = refl
unbarred false ConditionalTerm = refl
unbarred false SwitchTerm = refl
unbarred false LetTerm = refl
unbarred false Binds = refl
unbarred false Parameters = refl
unbarred false Product = refl
unbarred false Constants = refl
unbarred false Parallel = refl
unbarred false Sequence = refl
unbarred false Conditional = refl
unbarred false Switch = refl
unbarred false Let = refl
unbarred false Forall = refl
unbarred false Choose = refl

pub plain_live : (script : Bool) (x : Inside) → plain x ≡ true → is_live models (λ y. false) (body script x) ≡ true
unfolding number arguments call leaf named enclosed primary opposite product_tail product sum_tail sum comparison_tail comparison negation conjunction_tail conjunction disjunction_tail disjunction implication_tail implication equivalence_tail equivalence term binder more_binders binders guard bind more_binds more_terms terms other_term otherwise_term case_term more_case_terms second_operand unique quantifier_term group int update macro_call block rule more_rules other_rule otherwise_rule if_none case_rule more_case_rules constant more_constants more_domains body
plain_live true Equivalent e = refl
plain_live true Implied e = refl
plain_live true Disjoined e = refl
plain_live true Joined e = refl
plain_live true Compared e = refl
plain_live true Added e = refl
plain_live true Multiplied e = refl
plain_live true Negated e = refl
plain_live true Opposite e = refl
plain_live true NamedOne e = absurd (cc (e))
plain_live true NamedTwo e = absurd (cc (e))
plain_live true NamedMinus e = absurd (cc (e))
plain_live true OneOperand e = refl
plain_live true TwoOperands e = refl
plain_live true MinusOperands e = refl
plain_live true Grouped e = refl
plain_live true Arguments e = refl
plain_live true Actuals e = refl
plain_live true ForallTerm e = refl
plain_live true ExistTerm e = refl
plain_live true ConditionalTerm e = refl
plain_live true SwitchTerm e = refl
plain_live true LetTerm e = absurd (cc (e))
plain_live true Binds e = refl
plain_live true Parameters e = refl
plain_live true Product e = refl
plain_live true Constants e = refl
plain_live true Parallel e = refl
plain_live true Sequence e = refl
plain_live true Conditional e = refl
plain_live true Switch e = refl
plain_live true Let e = absurd (cc (e))
plain_live true Forall e = refl
plain_live true Choose e = refl
plain_live false Equivalent e = refl
plain_live false Implied e = refl
plain_live false Disjoined e = refl
plain_live false Joined e = refl
plain_live false Compared e = refl
plain_live false Added e = refl
plain_live false Multiplied e = refl
plain_live false Negated e = refl
plain_live false Opposite e = refl
plain_live false NamedOne e = absurd (cc (e))
plain_live false NamedTwo e = absurd (cc (e))
plain_live false NamedMinus e = absurd (cc (e))
plain_live false OneOperand e = refl
plain_live false TwoOperands e = refl
plain_live false MinusOperands e = refl
plain_live false Grouped e = refl
plain_live false Arguments e = refl
plain_live false Actuals e = refl
plain_live false ForallTerm e = refl
plain_live false ExistTerm e = refl
plain_live false ConditionalTerm e = refl
plain_live false SwitchTerm e = refl
plain_live false LetTerm e = absurd (cc (e))
plain_live false Binds e = refl
plain_live false Parameters e = refl
plain_live false Product e = refl
plain_live false Constants e = refl
plain_live false Parallel e = refl
plain_live false Sequence e = refl
plain_live false Conditional e = refl
plain_live false Switch e = refl
plain_live false Let e = absurd (cc (e))
plain_live false Forall e = refl
plain_live false Choose e = refl
