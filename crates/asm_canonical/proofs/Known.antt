-- Each term and each rule that some tokens spell has a good document.
use Rattle.std.proofs.Common.{◌≡◌, ℕ, suc, zero, ◌≤◌, Bool, true, false, List, [], ◌∷◌, Some, None, Option, sym, ◌∙◌, subst, inl, inr}
use Rattle.std.specs.Prelude.{nat_lt}
use Rattle.std.specs.Str.Parse.{digits_value}
use Rattle.std.proofs.lemmas.Bool.{ltb-false}
use Rattle.asm_lex.specs.Cut.{greatest_number}
use Rattle.asm_grammar.specs.Grammar.{Grammar, nothing, both, either, many, shown, nested, Placed}
use Rattle.asm_tree.specs.Words.{class_of, number, kind_of}
use Rattle.asm_tree.specs.declared.class.Class.{Class}
use Rattle.asm_tree.specs.declared.class.Class.TheVariants as class
use Rattle.asm_tree.specs.declared.operator.UnaryOp.TheVariants as unary
use Rattle.asm_tree.specs.declared.operator.Op.TheVariants as op
use Rattle.asm_tree.specs.declared.operator.Quantifier.{Quantifier}
use Rattle.asm_tree.specs.declared.operator.Quantifier.TheVariants as quantifier
use Rattle.asm_tree.specs.declared.term.RawName.{RawName}
use Rattle.asm_tree.specs.declared.term.RawBinder.{RawBinder}
use Rattle.asm_tree.specs.declared.term.RawBind.{RawBind}
use Rattle.asm_tree.specs.declared.term.RawCase.{RawCase}
use Rattle.asm_tree.specs.declared.term.RawTerm.{RawTerm}
use Rattle.asm_tree.specs.declared.term.RawTermKind.{RawTermKind}
use Rattle.asm_tree.specs.declared.term.RawTermKind.TheVariants as term_kind
use Rattle.asm_tree.specs.declared.rule.RawRule.{RawRule}
use Rattle.asm_tree.specs.declared.rule.RawRuleKind.TheVariants as rule_kind
use Rattle.asm_tree.specs.declared.rule.RawRuleCase.{RawRuleCase}
use Rattle.asm_tree.specs.Language.{TokenText, Phrase, Chain, Grouping, Quantified, Plain, models, after, before, name, Inside, Value, domains, variables, Equivalent, Implied, Disjoined, Joined, Compared, Added, Multiplied, Negated, Opposite, NamedOne, NamedTwo, NamedMinus, OneOperand, TwoOperands, MinusOperands, Grouped, Arguments, Actuals, ForallTerm, ExistTerm, ConditionalTerm, SwitchTerm, LetTerm, Binds, Parameters, Product, Constants, Parallel, Sequence, Conditional, Switch, Let, Forall, Choose}
use Rattle.asm_tree.specs.Terms.{op_at, unary_at, chained, joined, paired, named_minus, grouped, guard_or, other_or, exist_term, arguments, call, leaf, named, enclosed, primary, opposite, product_tail, product, sum_tail, sum, comparison_tail, comparison, negation, conjunction_tail, conjunction, disjunction_tail, disjunction, implication_tail, implication, equivalence_tail, equivalence, term, binder, more_binders, binders, guard, bind, more_binds, more_terms, terms, other_term, otherwise_term, case_term, more_case_terms, second_operand, quantifier_term, group}
use Rattle.asm_tree.specs.Rules.{body, skip_or, update, macro_call, block, rule, more_rules, other_rule, otherwise_rule, if_none, case_rule, more_case_rules, more_domains}
use Rattle.asm_canonical.proofs.Classes.{kind_number}
use Rattle.asm_canonical.proofs.Made.{Made, made, AllFit, Every}
use Rattle.asm_canonical.proofs.Good.{IsKind}
use Rattle.asm_canonical.proofs.Phrases.{is_kind}
use Rattle.asm_canonical.proofs.Levels.{GoodKind}
use Rattle.asm_canonical.proofs.Operators.{good_binary, good_unary}
use Rattle.asm_canonical.proofs.GoodTerms.{GoodTerm, GoodBinder, GoodBind, GoodCase, good_number, good_truth, good_undef, good_variable, good_element, good_call, good_cond, good_switch, good_let, good_quant}
use Rattle.asm_canonical.proofs.GoodRules.{GoodRule, GoodRuleKind, GoodRuleCase, good_skip, good_update, good_rule_call, good_par, good_seq, good_if, good_rule_switch, good_rule_let, good_forall, good_choose}

-- each of some, of which there is one
abbrev pub Filled : {A : Type 0} → (A → Type 0) → List A → Type 0
Filled P [] = ⊥
Filled P (x ∷ xs) = Every P (x ∷ xs)

abbrev pub Perhaps : {A : Type 0} → (A → Type 0) → Option A → Type 0
Perhaps P None = Unit {0}
Perhaps P (Some x) = P x

abbrev GoodPhrase : Phrase → Type 0
GoodPhrase p = GoodTerm p.term

abbrev GoodOperands : List (TokenText × Phrase) → Type 0
GoodOperands ops = Every (λ p. GoodPhrase p.1) ops

abbrev GoodChain : Chain → Type 0
GoodChain c = GoodPhrase c.0 × GoodOperands c.1

abbrev GoodGroup : Grouping → Type 0
GoodGroup (Quantified k) = GoodKind k
GoodGroup (Plain x) = GoodTerm x

-- what is known of a value behind a token that opens a level
abbrev pub Known : (x : Inside) → Value x → Type 0
Known Equivalent c = GoodChain c
Known Implied p = GoodPhrase p
Known Disjoined c = GoodChain c
Known Joined c = GoodChain c
Known Compared p = GoodPhrase p
Known Added c = GoodChain c
Known Multiplied c = GoodChain c
Known Negated p = GoodPhrase p
Known Opposite p = GoodPhrase p
Known NamedOne x = GoodTerm x
Known NamedTwo p = GoodTerm p.0 × GoodTerm p.1
Known NamedMinus p = GoodTerm p.0 × Perhaps GoodTerm p.1
Known OneOperand x = GoodTerm x
Known TwoOperands p = GoodTerm p.0 × GoodTerm p.1
Known MinusOperands p = GoodTerm p.0 × Perhaps GoodTerm p.1
Known Grouped g = GoodGroup g
Known Arguments xs = Every GoodTerm xs
Known Actuals xs = Every GoodTerm xs
Known ForallTerm p = Filled GoodBinder p.0 × Perhaps GoodTerm p.1
Known ExistTerm p = Filled GoodBinder p.1.0 × Perhaps GoodTerm p.1.1
Known ConditionalTerm p = GoodTerm p.0 × (GoodTerm p.1.0 × Perhaps GoodTerm p.1.1)
Known SwitchTerm p = GoodTerm p.0 × (Filled GoodCase p.1.0 × Perhaps GoodTerm p.1.1)
Known LetTerm p = Filled GoodBind p.0 × GoodTerm p.1
Known Binds bs = Filled GoodBind bs
Known Parameters bs = Filled GoodBinder bs
Known Product ns = Filled (λ (n : RawName). IsKind n.text domains) ns
Known Constants cs = Unit {0}
Known Parallel rs = Filled GoodRule rs
Known Sequence rs = Filled GoodRule rs
Known Conditional p = GoodTerm p.0 × (GoodRule p.1.0 × Perhaps GoodRule p.1.1)
Known Switch p = GoodTerm p.0 × (Filled GoodRuleCase p.1.0 × Perhaps GoodRule p.1.1)
Known Let p = Filled GoodBind p.0 × GoodRule p.1
Known Forall p = Filled GoodBinder p.0 × (Perhaps GoodTerm p.1.0 × GoodRule p.1.1)
Known Choose p = Filled GoodBinder p.0 × (Perhaps GoodTerm p.1.0 × (GoodRule p.1.1.0 × Perhaps GoodRule p.1.1.1))

abbrev pub M : {A : Type 0} → Grammar models A → A → Type 0
M g y = Made Known g y

-- ---- the forms of grammar

pub every : {A : Type 0} (P Q : A → Type 0) → ((x : A) → P x → Q x) → (xs : List A) → Every P xs → Every Q xs
every P Q f [] h = tt
every P Q f (x ∷ xs) h = (f x h.0, every P Q f xs h.1)

-- behind a token that stands for itself
pub behind : {A : Type 0} (c : Class) (g : Grammar models A) (P : A → Type 0) → ((y : A) → M g y → P y) → (y : A) → M (after c g) y → P y
behind c g P f y m = subst P (sym m.1) (f m.0.1 m.2.1)

-- before a token that stands for itself
pub ahead_of : {A : Type 0} (c : Class) (g : Grammar models A) (P : A → Type 0) → ((y : A) → M g y → P y) → (y : A) → M (before g c) y → P y
ahead_of c g P f y m = subst P (sym m.1) (f m.0.0 m.2.0)

-- a phrase that may be there
pub perhaps : {A : Type 0} (c : Class) (g : Grammar models A) (ks : List ℕ) (P : A → Type 0) → ((y : A) → M g y → P y) → (o : Option A) → M (either (shown Some (after c g)) (nothing ks None)) o → Perhaps P o
perhaps c g ks P f o (inl m) = subst (Perhaps P) (sym m.1) (behind c g P f m.0 m.2)
perhaps c g ks P f o (inr m) = subst (Perhaps P) (sym m) tt

-- one and more of them
pub filled : {A : Type 0} (g h : Grammar models A) (P : A → Type 0) → ((y : A) → M g y → P y) → ((y : A) → M h y → P y) → (ys : List A) → M (shown (λ (p : A × List A). p.0 ∷ p.1) (both g (many h))) ys → Filled P ys
filled g h P f k ys m = subst (Filled P) (sym m.1) (f m.0.0 m.2.0, every (M h) P k m.0.1 m.2.1)

to_every : {A : Type 0} (P : A → Type 0) (xs : List A) → Filled P xs → Every P xs
to_every P [] h = absurd h
to_every P (x ∷ xs) h = h

-- ---- terms

term_known : (x : RawTerm) → ((p : Phrase) → M (equivalence false) p → GoodPhrase p) → M (term false) x → GoodTerm x
unfolding term
term_known x f m = subst GoodTerm (sym m.1) (f m.0 m.2)

small : (v : ℕ) → nat_lt greatest_number v ≡ false → v ≤ greatest_number
small v h = ltb-false greatest_number v h

leaf_known : (p : Phrase) → M (leaf false) p → GoodPhrase p
unfolding number leaf
leaf_known p (inl m) = subst GoodPhrase (sym m.1) (good_number (digits_value 10 m.0.text) (small (digits_value 10 m.0.text) (m.2.0.small (kind_number m.0.text m.2.1))))
leaf_known p (inr (inl m)) = subst GoodPhrase (sym m.1) (good_truth true)
leaf_known p (inr (inr (inl m))) = subst GoodPhrase (sym m.1) (good_truth false)
leaf_known p (inr (inr (inr (inl m)))) = subst GoodPhrase (sym m.1) good_undef
leaf_known p (inr (inr (inr (inr (inl m))))) = subst GoodPhrase (sym m.1) (good_variable m.0.text (is_kind m.2.1))
leaf_known p (inr (inr (inr (inr (inr m))))) = subst GoodPhrase (sym m.1) (good_element m.0.text (is_kind m.2.1))

arguments_known : (xs : List RawTerm) → M (arguments false) xs → Every GoodTerm xs
unfolding arguments
arguments_known xs (inl m) = subst (Every GoodTerm) (sym m.1) m.2.2
arguments_known xs (inr m) = subst (Every GoodTerm) (sym m) tt

call_known : (p : Phrase) → M (call false) p → GoodPhrase p
unfolding call
call_known p m = subst GoodPhrase (sym m.1) (good_call m.0.0.text m.0.1 (is_kind m.2.0.1) (arguments_known m.0.1 m.2.1))

minus_good : (q : TokenText × (RawTerm × Option RawTerm)) → GoodTerm q.1.0 × Perhaps GoodTerm q.1.1 → GoodPhrase (named_minus q)
minus_good (t, (x, None)) g = good_unary unary.Negate x g.0
minus_good (t, (x, Some y)) g = good_binary op.Minus x y g.0 g.1

named_known : (p : Phrase) → M (named false) p → GoodPhrase p
unfolding named
named_known p (inl m) = subst GoodPhrase (sym m.1) (good_unary (unary_at (suc (number (class_of m.0.0.text)))) m.0.1 m.2.2)
named_known p (inr (inl m)) = subst GoodPhrase (sym m.1) (good_binary (op_at (suc (number (class_of m.0.0.text)))) m.0.1.0 m.0.1.1 m.2.2.0 m.2.2.1)
named_known p (inr (inr m)) = subst GoodPhrase (sym m.1) (minus_good m.0 m.2.2)

group_good : (q : TokenText × Grouping) → GoodGroup q.1 → GoodPhrase (grouped q)
group_good (t, Quantified k) g = g
group_good (t, Plain x) g = g

other_good : (t : TokenText) (o : Option RawTerm) → Perhaps GoodTerm o → GoodTerm (other_or t o)
other_good t None g = good_undef
other_good t (Some x) g = g

guard_known : (t : TokenText) (o : Option RawTerm) → Perhaps GoodTerm o → GoodTerm (guard_or t o)
guard_known t None g = good_truth true
guard_known t (Some x) g = g

switch_known : (x : RawTerm) (cs : List RawCase) (y : RawTerm) → GoodTerm x → Filled GoodCase cs → GoodTerm y → GoodKind (term_kind.Switch x cs y)
switch_known x [] y g h k = absurd h
switch_known x (c ∷ cs) y g h k = good_switch x c cs y g h k

let_known : (bs : List RawBind) (x : RawTerm) → Filled GoodBind bs → GoodTerm x → GoodKind (term_kind.Let bs x)
let_known [] x h g = absurd h
let_known (b ∷ bs) x h g = good_let b bs x h g

quant_known : (q : Quantifier) (bs : List RawBinder) (x : RawTerm) → Filled GoodBinder bs → GoodTerm x → GoodKind (term_kind.Quant q bs x)
quant_known q [] x h g = absurd h
quant_known q (b ∷ bs) x h g = good_quant q b bs x h g

enclosed_known : (p : Phrase) → M (enclosed false) p → GoodPhrase p
unfolding enclosed
enclosed_known p (inl m) = subst GoodPhrase (sym m.1) (group_good m.0 m.2.2)
enclosed_known p (inr (inl m)) = subst GoodPhrase (sym m.1) (good_cond m.0.1.0 m.0.1.1.0 (other_or m.0.0 m.0.1.1.1) m.2.2.0 m.2.2.1.0 (other_good m.0.0 m.0.1.1.1 m.2.2.1.1))
enclosed_known p (inr (inr (inl m))) = subst GoodPhrase (sym m.1) (switch_known m.0.1.0 m.0.1.1.0 (other_or m.0.0 m.0.1.1.1) m.2.2.0 m.2.2.1.0 (other_good m.0.0 m.0.1.1.1 m.2.2.1.1))
enclosed_known p (inr (inr (inr m))) = subst GoodPhrase (sym m.1) (let_known m.0.1.0 m.0.1.1 m.2.2.0 m.2.2.1)

primary_known : (p : Phrase) → M (primary false) p → GoodPhrase p
unfolding primary
primary_known p (inl m) = leaf_known p m
primary_known p (inr (inl m)) = call_known p m
primary_known p (inr (inr (inl m))) = named_known p m
primary_known p (inr (inr (inr m))) = enclosed_known p m

-- ---- levels

chain_good : (x : Phrase) (ops : List (TokenText × Phrase)) → GoodPhrase x → GoodOperands ops → GoodPhrase (chained x ops)
chain_good x [] g h = g
chain_good x ((t, y) ∷ ops) g h = chain_good (joined x t y) ops (good_binary (op_at (suc (number (class_of t.text)))) x.term y.term g h.0) h.1

pair_good : (x : Phrase) (o : Option (TokenText × Phrase)) → GoodPhrase x → Perhaps (λ p. GoodPhrase p.1) o → GoodPhrase (paired (x, o))
pair_good x None g h = g
pair_good x (Some (t, y)) g h = good_binary (op_at (suc (number (class_of t.text)))) x.term y.term g h

opposite_known : (p : Phrase) → M (opposite false) p → GoodPhrase p
unfolding opposite
opposite_known p (inl m) = subst GoodPhrase (sym m.1) (good_unary unary.Negate m.0.1.term m.2.2)
opposite_known p (inr m) = primary_known p m

product_tail_known : (ops : List (TokenText × Phrase)) → M (product_tail false) ops → GoodOperands ops
unfolding product_tail
product_tail_known ops (inl m) = subst GoodOperands (sym m.1) m.2.2
product_tail_known ops (inr m) = subst GoodOperands (sym m) tt

product_known : (p : Phrase) → M (product false) p → GoodPhrase p
unfolding product
product_known p m = subst GoodPhrase (sym m.1) (chain_good m.0.0 m.0.1 (opposite_known m.0.0 m.2.0) (product_tail_known m.0.1 m.2.1))

sum_tail_known : (ops : List (TokenText × Phrase)) → M (sum_tail false) ops → GoodOperands ops
unfolding sum_tail
sum_tail_known ops (inl m) = subst GoodOperands (sym m.1) m.2.2
sum_tail_known ops (inr m) = subst GoodOperands (sym m) tt

sum_known : (p : Phrase) → M (sum false) p → GoodPhrase p
unfolding sum
sum_known p m = subst GoodPhrase (sym m.1) (chain_good m.0.0 m.0.1 (product_known m.0.0 m.2.0) (sum_tail_known m.0.1 m.2.1))

comparison_tail_known : (o : Option (TokenText × Phrase)) → M (comparison_tail false) o → Perhaps (λ p. GoodPhrase p.1) o
unfolding comparison_tail
comparison_tail_known o (inl m) = subst (Perhaps (λ (p : TokenText × Phrase). GoodPhrase p.1)) (sym m.1) m.2.2
comparison_tail_known o (inr m) = subst (Perhaps (λ (p : TokenText × Phrase). GoodPhrase p.1)) (sym m) tt

comparison_known : (p : Phrase) → M (comparison false) p → GoodPhrase p
unfolding comparison
comparison_known p m = subst GoodPhrase (sym m.1) (pair_good m.0.0 m.0.1 (sum_known m.0.0 m.2.0) (comparison_tail_known m.0.1 m.2.1))

negation_known : (p : Phrase) → M (negation false) p → GoodPhrase p
unfolding negation
negation_known p (inl m) = subst GoodPhrase (sym m.1) (good_unary unary.Not m.0.1.term m.2.2)
negation_known p (inr m) = comparison_known p m

conjunction_tail_known : (ops : List (TokenText × Phrase)) → M (conjunction_tail false) ops → GoodOperands ops
unfolding conjunction_tail
conjunction_tail_known ops (inl m) = subst GoodOperands (sym m.1) m.2.2
conjunction_tail_known ops (inr m) = subst GoodOperands (sym m) tt

conjunction_known : (p : Phrase) → M (conjunction false) p → GoodPhrase p
unfolding conjunction
conjunction_known p m = subst GoodPhrase (sym m.1) (chain_good m.0.0 m.0.1 (negation_known m.0.0 m.2.0) (conjunction_tail_known m.0.1 m.2.1))

disjunction_tail_known : (ops : List (TokenText × Phrase)) → M (disjunction_tail false) ops → GoodOperands ops
unfolding disjunction_tail
disjunction_tail_known ops (inl m) = subst GoodOperands (sym m.1) m.2.2
disjunction_tail_known ops (inr m) = subst GoodOperands (sym m) tt

disjunction_known : (p : Phrase) → M (disjunction false) p → GoodPhrase p
unfolding disjunction
disjunction_known p m = subst GoodPhrase (sym m.1) (chain_good m.0.0 m.0.1 (conjunction_known m.0.0 m.2.0) (disjunction_tail_known m.0.1 m.2.1))

implication_tail_known : (o : Option (TokenText × Phrase)) → M (implication_tail false) o → Perhaps (λ p. GoodPhrase p.1) o
unfolding implication_tail
implication_tail_known o (inl m) = subst (Perhaps (λ (p : TokenText × Phrase). GoodPhrase p.1)) (sym m.1) m.2.2
implication_tail_known o (inr m) = subst (Perhaps (λ (p : TokenText × Phrase). GoodPhrase p.1)) (sym m) tt

implication_known : (p : Phrase) → M (implication false) p → GoodPhrase p
unfolding implication
implication_known p m = subst GoodPhrase (sym m.1) (pair_good m.0.0 m.0.1 (disjunction_known m.0.0 m.2.0) (implication_tail_known m.0.1 m.2.1))

equivalence_tail_known : (ops : List (TokenText × Phrase)) → M (equivalence_tail false) ops → GoodOperands ops
unfolding equivalence_tail
equivalence_tail_known ops (inl m) = subst GoodOperands (sym m.1) m.2.2
equivalence_tail_known ops (inr m) = subst GoodOperands (sym m) tt

equivalence_known : (p : Phrase) → M (equivalence false) p → GoodPhrase p
unfolding equivalence
equivalence_known p m = subst GoodPhrase (sym m.1) (chain_good m.0.0 m.0.1 (implication_known m.0.0 m.2.0) (equivalence_tail_known m.0.1 m.2.1))

pub known_term : (x : RawTerm) → M (term false) x → GoodTerm x
known_term x m = term_known x equivalence_known m

-- ---- the parts of terms

-- a name of some kinds
abbrev pub Named : List ℕ → RawName → Type 0
Named ks n = IsKind n.text ks

pub named_of : (ks : List ℕ) (n : RawName) → M (name ks) n → Named ks n
named_of ks n m = subst (Named ks) (sym m.1) (is_kind m.2.1)

binder_known : (b : RawBinder) → M (binder false) b → GoodBinder b
unfolding binder
binder_known b m = subst GoodBinder (sym m.1) (record { variable = named_of variables m.0.0 m.2.0; domain = behind class.In (name domains) (Named domains) (named_of domains) m.0.1 m.2.1 })

pub binders_known : (bs : List RawBinder) → M (binders false) bs → Filled GoodBinder bs
unfolding binders more_binders
binders_known bs m = filled (binder false) (after class.Comma (binder false)) GoodBinder binder_known (behind class.Comma (binder false) GoodBinder binder_known) bs m

guard_perhaps : (o : Option RawTerm) → M (guard false) o → Perhaps GoodTerm o
unfolding guard
guard_perhaps o m = perhaps class.With (term false) [] GoodTerm known_term o m

bind_known : (b : RawBind) → M (bind false) b → GoodBind b
unfolding bind
bind_known b m = subst GoodBind (sym m.1) (record { variable = named_of variables m.0.0 m.2.0; term = behind class.Equal (term false) GoodTerm known_term m.0.1 m.2.1 })

terms_known : (xs : List RawTerm) → M (terms false) xs → Filled GoodTerm xs
unfolding terms more_terms
terms_known xs m = filled (term false) (after class.Comma (term false)) GoodTerm known_term (behind class.Comma (term false) GoodTerm known_term) xs m

case_known : (c : RawCase) → M (case_term false) c → GoodCase c
unfolding case_term
case_known c m = subst GoodCase (sym (m.1 ∙ m.2.1.1)) (record { label = known_term m.2.1.0.0 m.2.1.2.0; value = behind class.Colon (term false) GoodTerm known_term m.2.1.0.1 m.2.1.2.1 })

quantifier_known : (k : RawTermKind) → M (quantifier_term false) k → GoodKind k
unfolding quantifier_term
quantifier_known k (inl m) = subst GoodKind (sym m.1) (quant_known quantifier.Forall m.0.1.0 (guard_or m.0.0 m.0.1.1) m.2.2.0 (guard_known m.0.0 m.0.1.1 m.2.2.1))
quantifier_known k (inr m) = subst GoodKind (sym m.1) (go m.0 m.2.2)
  where
    go : (p : TokenText × (Bool × (List RawBinder × Option RawTerm))) → Filled GoodBinder p.1.1.0 × Perhaps GoodTerm p.1.1.1 → GoodKind (exist_term p)
    go (t, (true, (bs, o))) g = quant_known quantifier.ExistUnique bs (guard_or t o) g.0 (guard_known t o g.1)
    go (t, (false, (bs, o))) g = quant_known quantifier.Exist bs (guard_or t o) g.0 (guard_known t o g.1)

group_known : (g : Grouping) → M (group false) g → GoodGroup g
unfolding group
group_known g (inl m) = subst GoodGroup (sym m.1) (quantifier_known m.0 m.2)
group_known g (inr m) = subst GoodGroup (sym m.1) (known_term m.0 m.2)

-- ---- rules

skip_good : (t : TokenText) (o : Option RawRule) → Perhaps GoodRule o → GoodRule (skip_or t o)
skip_good t None g = good_skip
skip_good t (Some r) g = g

par_known : (rs : List RawRule) → Filled GoodRule rs → GoodRuleKind (rule_kind.Par rs)
par_known [] h = absurd h
par_known (r ∷ rs) h = good_par r rs h

seq_known : (rs : List RawRule) → Filled GoodRule rs → GoodRuleKind (rule_kind.Seq rs)
seq_known [] h = absurd h
seq_known (r ∷ rs) h = good_seq r rs h

rule_switch_known : (x : RawTerm) (cs : List RawRuleCase) (q : RawRule) → GoodTerm x → Filled GoodRuleCase cs → GoodRule q → GoodRuleKind (rule_kind.Switch x cs q)
rule_switch_known x [] q g h k = absurd h
rule_switch_known x (c ∷ cs) q g h k = good_rule_switch x c cs q g h k

rule_let_known : (bs : List RawBind) (p : RawRule) → Filled GoodBind bs → GoodRule p → GoodRuleKind (rule_kind.Let bs p)
rule_let_known [] p h g = absurd h
rule_let_known (b ∷ bs) p h g = good_rule_let b bs p h g

forall_known : (bs : List RawBinder) (g : RawTerm) (p : RawRule) → Filled GoodBinder bs → GoodTerm g → GoodRule p → GoodRuleKind (rule_kind.Forall bs g p)
forall_known [] g p h a b = absurd h
forall_known (b ∷ bs) g p h a c = good_forall b bs g p h a c

choose_known : (bs : List RawBinder) (g : RawTerm) (p q : RawRule) → Filled GoodBinder bs → GoodTerm g → GoodRule p → GoodRule q → GoodRuleKind (rule_kind.Choose bs g p q)
choose_known [] g p q h a b c = absurd h
choose_known (b ∷ bs) g p q h a c d = good_choose b bs g p q h a c d

block_known : (r : RawRule) → M (block false) r → GoodRule r
unfolding block
block_known r (inl m) = subst GoodRule (sym m.1) (par_known m.0.1 m.2.2)
block_known r (inr (inl m)) = subst GoodRule (sym m.1) (seq_known m.0.1 m.2.2)
block_known r (inr (inr (inl m))) = subst GoodRule (sym m.1) (good_if m.0.1.0 m.0.1.1.0 (skip_or m.0.0 m.0.1.1.1) m.2.2.0 m.2.2.1.0 (skip_good m.0.0 m.0.1.1.1 m.2.2.1.1))
block_known r (inr (inr (inr (inl m)))) = subst GoodRule (sym m.1) (rule_switch_known m.0.1.0 m.0.1.1.0 (skip_or m.0.0 m.0.1.1.1) m.2.2.0 m.2.2.1.0 (skip_good m.0.0 m.0.1.1.1 m.2.2.1.1))
block_known r (inr (inr (inr (inr (inl m))))) = subst GoodRule (sym m.1) (rule_let_known m.0.1.0 m.0.1.1 m.2.2.0 m.2.2.1)
block_known r (inr (inr (inr (inr (inr (inl m)))))) = subst GoodRule (sym m.1) (forall_known m.0.1.0 (guard_or m.0.0 m.0.1.1.0) m.0.1.1.1 m.2.2.0 (guard_known m.0.0 m.0.1.1.0 m.2.2.1.0) m.2.2.1.1)
block_known r (inr (inr (inr (inr (inr (inr m)))))) = subst GoodRule (sym m.1) (choose_known m.0.1.0 (guard_or m.0.0 m.0.1.1.0) m.0.1.1.1.0 (skip_or m.0.0 m.0.1.1.1.1) m.2.2.0 (guard_known m.0.0 m.0.1.1.0 m.2.2.1.0) m.2.2.1.1.0 (skip_good m.0.0 m.0.1.1.1.1 m.2.2.1.1.1))

update_known : (r : RawRule) → M (update false) r → GoodRule r
unfolding update
update_known r m = subst GoodRule (sym m.1) (good_update m.0.0.text m.0.1.0 m.0.1.1 (is_kind m.2.0.1) (arguments_known m.0.1.0 m.2.1.0) (behind class.Assign (term false) GoodTerm known_term m.0.1.1 m.2.1.1))

macro_known : (r : RawRule) → M (macro_call false) r → GoodRule r
unfolding macro_call
macro_known r m = subst GoodRule (sym m.1) (good_rule_call m.0.0.text m.0.1 (is_kind m.2.0.1) (subst (Every GoodTerm) (sym m.2.1.1) m.2.1.2.2))

pub known_rule : (r : RawRule) → M (rule false) r → GoodRule r
unfolding rule
known_rule r (inl m) = subst GoodRule (sym m.1) good_skip
known_rule r (inr (inl m)) = update_known r m
known_rule r (inr (inr (inl m))) = macro_known r m
known_rule r (inr (inr (inr m))) = block_known r m

rules_known : (rs : List RawRule) → M (shown (λ (p : RawRule × List RawRule). p.0 ∷ p.1) (both (rule false) (more_rules false))) rs → Filled GoodRule rs
unfolding more_rules
rules_known rs m = filled (rule false) (rule false) GoodRule known_rule known_rule rs m

rule_case_known : (c : RawRuleCase) → M (case_rule false) c → GoodRuleCase c
unfolding case_rule
rule_case_known c m = subst GoodRuleCase (sym (m.1 ∙ m.2.1.1)) (record { label = known_term m.2.1.0.0 m.2.1.2.0; rule = behind class.Colon (rule false) GoodRule known_rule m.2.1.0.1 m.2.1.2.1 })

-- ---- what stands behind each token that opens a level

known_body : (x : Inside) (y : Value x) → M (body false x) y → Known x y
unfolding body more_domains more_binds more_case_terms more_case_rules other_term otherwise_term second_operand other_rule otherwise_rule if_none
known_body Equivalent y m = (implication_known y.0 m.0, equivalence_tail_known y.1 m.1)
known_body Implied y m = implication_known y m
known_body Disjoined y m = (conjunction_known y.0 m.0, disjunction_tail_known y.1 m.1)
known_body Joined y m = (negation_known y.0 m.0, conjunction_tail_known y.1 m.1)
known_body Compared y m = sum_known y m
known_body Added y m = (product_known y.0 m.0, sum_tail_known y.1 m.1)
known_body Multiplied y m = (opposite_known y.0 m.0, product_tail_known y.1 m.1)
known_body Negated y m = negation_known y m
known_body Opposite y m = opposite_known y m
known_body NamedOne y m = subst GoodTerm (sym m.1) m.2.2
known_body NamedTwo y m = subst (λ (p : RawTerm × RawTerm). GoodTerm p.0 × GoodTerm p.1) (sym m.1) m.2.2
known_body NamedMinus y m = subst (λ (p : RawTerm × Option RawTerm). GoodTerm p.0 × Perhaps GoodTerm p.1) (sym m.1) m.2.2
known_body OneOperand y m = ahead_of class.Close (term false) GoodTerm known_term y m
known_body TwoOperands y m = (known_term y.0 m.0, behind class.Comma (before (term false) class.Close) GoodTerm (ahead_of class.Close (term false) GoodTerm known_term) y.1 m.1)
known_body MinusOperands y m = (known_term y.0 m.0, ahead_of class.Close (second_operand false) (Perhaps GoodTerm) (λ o n. perhaps class.Comma (term false) [] GoodTerm known_term o n) y.1 m.1)
known_body Grouped y m = ahead_of class.Close (group false) GoodGroup group_known y m
known_body Arguments y m = ahead_of class.Close (terms false) (Every GoodTerm) (λ xs n. to_every GoodTerm xs (terms_known xs n)) y m
known_body Actuals y m = ahead_of class.CloseBracket (either (terms false) (nothing [] [])) (Every GoodTerm) (λ xs n. elim n [ inl a ↦ to_every GoodTerm xs (terms_known xs a) | inr e ↦ subst (Every GoodTerm) (sym e) tt ]) y m
known_body ForallTerm y m = (binders_known y.0 m.0, guard_perhaps y.1 m.1)
known_body ExistTerm y m = (binders_known y.1.0 m.1.0, guard_perhaps y.1.1 m.1.1)
known_body ConditionalTerm y m = (
  known_term y.0 m.0,
  behind class.Then (both (term false) (before (other_term false) class.EndIf)) (λ p. GoodTerm p.0 × Perhaps GoodTerm p.1)
      (λ p n. (known_term p.0 n.0, ahead_of class.EndIf (other_term false) (Perhaps GoodTerm) (λ o k. perhaps class.Else (term false) [] GoodTerm known_term o k) p.1 n.1)) y.1 m.1,
)
known_body SwitchTerm y m = (known_term y.0 m.0, (filled (case_term false) (case_term false) GoodCase case_known case_known y.1.0 m.1.0, ahead_of class.EndSwitch (otherwise_term false) (Perhaps GoodTerm) (λ o k. perhaps class.Otherwise (term false) [] GoodTerm known_term o k) y.1.1 m.1.1))
known_body LetTerm y m = (subst (Filled GoodBind) (sym m.0.1) m.0.2.2, behind class.In (before (term false) class.EndLet) GoodTerm (ahead_of class.EndLet (term false) GoodTerm known_term) y.1 m.1)
known_body Binds y m = ahead_of class.Close (shown (λ p. p.0 ∷ p.1) (both (bind false) (more_binds false))) (Filled GoodBind) (filled (bind false) (after class.Comma (bind false)) GoodBind bind_known (behind class.Comma (bind false) GoodBind bind_known)) y m
known_body Parameters y m = ahead_of class.Close (binders false) (Filled GoodBinder) binders_known y m
known_body Product y m = ahead_of class.Close (shown (λ p. p.0 ∷ p.1) (both (name domains) (more_domains false))) (Filled (Named domains)) (filled (name domains) (after class.Comma (name domains)) (Named domains) (named_of domains) (behind class.Comma (name domains) (Named domains) (named_of domains))) y m
known_body Constants y m = tt
known_body Parallel y m = ahead_of class.EndPar (shown (λ p. p.0 ∷ p.1) (both (rule false) (more_rules false))) (Filled GoodRule) rules_known y m
known_body Sequence y m = ahead_of class.EndSeq (shown (λ p. p.0 ∷ p.1) (both (rule false) (more_rules false))) (Filled GoodRule) rules_known y m
known_body Conditional y m = (
  known_term y.0 m.0,
  behind class.Then (both (rule false) (before (other_rule false) class.EndIf)) (λ p. GoodRule p.0 × Perhaps GoodRule p.1)
      (λ p n. (known_rule p.0 n.0, ahead_of class.EndIf (other_rule false) (Perhaps GoodRule) (λ o k. perhaps class.Else (rule false) [] GoodRule known_rule o k) p.1 n.1)) y.1 m.1,
)
known_body Switch y m = (known_term y.0 m.0, (filled (case_rule false) (case_rule false) GoodRuleCase rule_case_known rule_case_known y.1.0 m.1.0, ahead_of class.EndSwitch (otherwise_rule false) (Perhaps GoodRule) (λ o k. perhaps class.Otherwise (rule false) [] GoodRule known_rule o k) y.1.1 m.1.1))
known_body Let y m = (subst (Filled GoodBind) (sym m.0.1) m.0.2.2, behind class.In (before (rule false) class.EndLet) GoodRule (ahead_of class.EndLet (rule false) GoodRule known_rule) y.1 m.1)
known_body Forall y m = (binders_known y.0 m.0, (guard_perhaps y.1.0 m.1.0, behind class.Do (rule false) GoodRule known_rule y.1.1 m.1.1))
known_body Choose y m = (
  binders_known y.0 m.0,
  (
    guard_perhaps y.1.0 m.1.0,
    behind class.Do (both (rule false) (if_none false)) (λ p. GoodRule p.0 × Perhaps GoodRule p.1)
        (λ p n. (known_rule p.0 n.0, perhaps class.IfNone (rule false) (kind_of class.IfNone ∷ []) GoodRule known_rule p.1 n.1)) y.1.1 m.1.1,
  ),
)

pub known : (n : ℕ) (x : Inside) (d : ℕ) (u : List (Placed models)) (y : Value x) (next : ℕ) → AllFit u → nested models (body false) n x d u y next → Known x y
unfolding nested
known zero x d u y next f s = absurd s
known (suc n) x d u y next f s = known_body x y (made Known (nested models (body false) n) (known n) (body false x) d u y next f s)
