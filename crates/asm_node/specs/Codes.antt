-- Codes of machines, by which proofs tell them apart.
use Rattle.std.specs.Prelude.{◌≡◌, ℕ, zero, suc, List}
use Rattle.std.proofs.Common.{refl, ap, sym, eq-eqb, true≢false}
use Rattle.std.specs.Coded.{Coded, code_by, coded_list, coded_ℕ, coded×}
use base.Stored.{Gv, gnil, gnum, gcons, num}
use Rattle.asm_domain.specs.contracts.value.Value as value
use Rattle.asm_source.specs.contracts.sources.Place as place
use Rattle.asm_node.specs.contracts.operator.Op as operator
use Rattle.asm_node.specs.contracts.operator.Quantifier as quantifier
use Rattle.asm_node.specs.contracts.term.Binder as binder
use Rattle.asm_node.specs.declared.term.Binder.{Binder}
use Rattle.asm_node.specs.Machine.{Machine, Definition, Macro}
use Rattle.asm_node.specs.RuleTree.{Rule, Rules, Skip, Update, Par, Seq, If, Let as LetRule, Forall, Choose, Call, none as no_rule, more as more_rules}
use Rattle.asm_node.specs.Tree.{Tree, Trees, Const, Var, Within, Get, Oper, Cond, Let, Quant, none, more}
use Rattle.asm_sign.specs.contracts.function.DeclaredDomain as declared
use Rattle.asm_sign.specs.contracts.function.Function as function
use Rattle.asm_sign.specs.declared.function.DeclaredDomain.{DeclaredDomain}
use Rattle.asm_sign.specs.declared.function.Function.{Function}
use Rattle.asm_sign.specs.Vocabulary.{Vocabulary}

abbrev binders_code : Coded (List Binder)
binders_code = coded_list binder.the_row.coded

-- the parts of a tree with a number
abbrev form : ℕ → Gv → Gv
form n parts = gcons (gnum n) parts

abbrev head : Gv → Gv
head gnil = gnil
head (gnum n) = gnil
head (gcons first others) = first

abbrev tail : Gv → Gv
tail gnil = gnil
tail (gnum n) = gnil
tail (gcons first others) = others

abbrev number : Gv → ℕ
number g = num (head g)

-- what stands after the number and so many parts
abbrev after : ℕ → Gv → Gv
after zero g = tail g
after (suc n) g = after n (tail g)

abbrev part : ℕ → Gv → Gv
part n g = head (after n g)

abbrev mutual
  tree_to : Tree → Gv
  tree_to (Const v) = form 0 (value.the_row.coded.code v)
  tree_to (Var n) = form 1 (gnum n)
  tree_to (Within n t) = form 2 (gcons (gnum n) (tree_to t))
  tree_to (Get n ts) = form 3 (gcons (gnum n) (trees_to ts))
  tree_to (Oper o ts) = form 4 (gcons (operator.the_row.coded.code o) (trees_to ts))
  tree_to (Cond t t1 t2) = form 5 (gcons (tree_to t) (gcons (tree_to t1) (tree_to t2)))
  tree_to (Let n t t1) = form 6 (gcons (gnum n) (gcons (tree_to t) (tree_to t1)))
  tree_to (Quant q bs t) = form 7 (gcons (quantifier.the_row.coded.code q) (gcons (binders_code.code bs) (tree_to t)))

  trees_to : Trees → Gv
  trees_to none = form 0 gnil
  trees_to (more t ts) = form 1 (gcons (tree_to t) (trees_to ts))

mutual
  pub tree_inj : (x y : Tree) → tree_to x ≡ tree_to y → x ≡ y
  tree_inj (Const v) (Const v') p = ap Const (value.the_row.coded.inj v v' (ap (after 0) p))
  tree_inj (Var n) (Var n') p = ap Var (ap (λ g. num (after 0 g)) p)
  tree_inj (Within n t) (Within n' t') p = λ i. Within (ap (λ g. num (part 0 g)) p i) (tree_inj t t' (ap (after 1) p) i)
  tree_inj (Get n ts) (Get n' ts') p = λ i. Get (ap (λ g. num (part 0 g)) p i) (trees_inj ts ts' (ap (after 1) p) i)
  tree_inj (Oper o ts) (Oper o' ts') p = λ i. Oper (operator.the_row.coded.inj o o' (ap (part 0) p) i) (trees_inj ts ts' (ap (after 1) p) i)
  tree_inj (Cond t t1 t2) (Cond t' t1' t2') p = λ i. Cond (tree_inj t t' (ap (part 0) p) i) (tree_inj t1 t1' (ap (part 1) p) i) (tree_inj t2 t2' (ap (after 2) p) i)
  tree_inj (Let n t t1) (Let n' t' t1') p = λ i. Let (ap (λ g. num (part 0 g)) p i) (tree_inj t t' (ap (part 1) p) i) (tree_inj t1 t1' (ap (after 2) p) i)
  tree_inj (Quant q bs t) (Quant q' bs' t') p = λ i. Quant (quantifier.the_row.coded.inj q q' (ap (part 0) p) i) (binders_code.inj bs bs' (ap (part 1) p) i) (tree_inj t t' (ap (after 2) p) i)
  tree_inj _ _ p = absurd (true≢false (sym (eq-eqb _ _ (ap number p))))

  pub trees_inj : (xs ys : Trees) → trees_to xs ≡ trees_to ys → xs ≡ ys
  trees_inj none none p = refl
  trees_inj (more t ts) (more t' ts') p = λ i. more (tree_inj t t' (ap (part 0) p) i) (trees_inj ts ts' (ap (after 1) p) i)
  trees_inj _ _ p = absurd (true≢false (sym (eq-eqb _ _ (ap number p))))

abbrev pub tree_code : Coded Tree
tree_code = record { code = tree_to; inj = tree_inj }

abbrev mutual
  rule_to : Rule → Gv
  rule_to (Skip at) = form 0 (place.the_row.coded.code at)
  rule_to (Update at n ts t) = form 1 (gcons (place.the_row.coded.code at) (gcons (gnum n) (gcons (trees_to ts) (tree_to t))))
  rule_to (Par at rs) = form 2 (gcons (place.the_row.coded.code at) (rules_to rs))
  rule_to (Seq at r r1) = form 3 (gcons (place.the_row.coded.code at) (gcons (rule_to r) (rule_to r1)))
  rule_to (If at t r r1) = form 4 (gcons (place.the_row.coded.code at) (gcons (tree_to t) (gcons (rule_to r) (rule_to r1))))
  rule_to (LetRule at n t r) = form 5 (gcons (place.the_row.coded.code at) (gcons (gnum n) (gcons (tree_to t) (rule_to r))))
  rule_to (Forall at bs t r) = form 6 (gcons (place.the_row.coded.code at) (gcons (binders_code.code bs) (gcons (tree_to t) (rule_to r))))
  rule_to (Choose at bs t r r1) = form 7 (gcons (place.the_row.coded.code at) (gcons (binders_code.code bs) (gcons (tree_to t) (gcons (rule_to r) (rule_to r1)))))
  rule_to (Call at n ts) = form 8 (gcons (place.the_row.coded.code at) (gcons (gnum n) (trees_to ts)))

  rules_to : Rules → Gv
  rules_to no_rule = form 0 gnil
  rules_to (more_rules r rs) = form 1 (gcons (rule_to r) (rules_to rs))

mutual
  pub rule_inj : (x y : Rule) → rule_to x ≡ rule_to y → x ≡ y
  rule_inj (Skip at) (Skip at') p = ap Skip (place.the_row.coded.inj at at' (ap (after 0) p))
  rule_inj (Update at n ts t) (Update at' n' ts' t') p = λ i. Update (place.the_row.coded.inj at at' (ap (part 0) p) i) (ap (λ g. num (part 1 g)) p i) (trees_inj ts ts' (ap (part 2) p) i) (tree_inj t t' (ap (after 3) p) i)
  rule_inj (Par at rs) (Par at' rs') p = λ i. Par (place.the_row.coded.inj at at' (ap (part 0) p) i) (rules_inj rs rs' (ap (after 1) p) i)
  rule_inj (Seq at r r1) (Seq at' r' r1') p = λ i. Seq (place.the_row.coded.inj at at' (ap (part 0) p) i) (rule_inj r r' (ap (part 1) p) i) (rule_inj r1 r1' (ap (after 2) p) i)
  rule_inj (If at t r r1) (If at' t' r' r1') p = λ i. If (place.the_row.coded.inj at at' (ap (part 0) p) i) (tree_inj t t' (ap (part 1) p) i) (rule_inj r r' (ap (part 2) p) i) (rule_inj r1 r1' (ap (after 3) p) i)
  rule_inj (LetRule at n t r) (LetRule at' n' t' r') p = λ i. LetRule (place.the_row.coded.inj at at' (ap (part 0) p) i) (ap (λ g. num (part 1 g)) p i) (tree_inj t t' (ap (part 2) p) i) (rule_inj r r' (ap (after 3) p) i)
  rule_inj (Forall at bs t r) (Forall at' bs' t' r') p = λ i. Forall (place.the_row.coded.inj at at' (ap (part 0) p) i) (binders_code.inj bs bs' (ap (part 1) p) i) (tree_inj t t' (ap (part 2) p) i) (rule_inj r r' (ap (after 3) p) i)
  rule_inj (Choose at bs t r r1) (Choose at' bs' t' r' r1') p = λ i. Choose (place.the_row.coded.inj at at' (ap (part 0) p) i) (binders_code.inj bs bs' (ap (part 1) p) i) (tree_inj t t' (ap (part 2) p) i) (rule_inj r r' (ap (part 3) p) i) (rule_inj r1 r1' (ap (after 4) p) i)
  rule_inj (Call at n ts) (Call at' n' ts') p = λ i. Call (place.the_row.coded.inj at at' (ap (part 0) p) i) (ap (λ g. num (part 1 g)) p i) (trees_inj ts ts' (ap (after 2) p) i)
  rule_inj _ _ p = absurd (true≢false (sym (eq-eqb _ _ (ap number p))))

  pub rules_inj : (xs ys : Rules) → rules_to xs ≡ rules_to ys → xs ≡ ys
  rules_inj no_rule no_rule p = refl
  rules_inj (more_rules r rs) (more_rules r' rs') p = λ i. more_rules (rule_inj r r' (ap (part 0) p) i) (rules_inj rs rs' (ap (after 1) p) i)
  rules_inj _ _ p = absurd (true≢false (sym (eq-eqb _ _ (ap number p))))

abbrev pub rule_code : Coded Rule
rule_code = record { code = rule_to; inj = rule_inj }

abbrev pub definition_code : Coded Definition
definition_code =
    code_by (ℕ × (List ℕ × Tree)) (coded× coded_ℕ (coded× (coded_list coded_ℕ) tree_code))
    (λ d. (d.function, (d.parameters, d.body))) (λ p. record { function = p.0; parameters = p.1.0; body = p.1.1 }) (λ _. refl)

abbrev pub macro_code : Coded Macro
macro_code =
    code_by (List ℕ × (List Binder × Rule)) (coded× (coded_list coded_ℕ) (coded× binders_code rule_code))
    (λ m. (m.name, (m.parameters, m.body))) (λ p. record { name = p.0; parameters = p.1.0; body = p.1.1 }) (λ _. refl)

abbrev pub vocabulary_code : Coded Vocabulary
vocabulary_code =
    code_by (List DeclaredDomain × List Function) (coded× (coded_list declared.the_row.coded) (coded_list function.the_row.coded))
    (λ v. (v.domains, v.functions)) (λ p. record { domains = p.0; functions = p.1 }) (λ _. refl)

abbrev pub machine_code : Coded Machine
machine_code =
    code_by (Vocabulary × (List Definition × (List Definition × (List Macro × (List Tree × Rule)))))
    (coded× vocabulary_code (coded× (coded_list definition_code) (coded× (coded_list definition_code) (coded× (coded_list macro_code) (coded× (coded_list tree_code) rule_code)))))
    (λ m. (m.signature, (m.definitions, (m.initial_terms, (m.rules, (m.invariants, m.main))))))
    (λ p. record { signature = p.0; definitions = p.1.0; initial_terms = p.1.1.0; rules = p.1.1.1.0; invariants = p.1.1.1.1.0; main = p.1.1.1.1.1 }) (λ _. refl)
