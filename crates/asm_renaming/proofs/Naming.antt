-- The trees of a raw term, and of a raw rule, under all numberings are those of one with names.
use Rattle.std.proofs.Common.{◌≡◌, ℕ, pos, List, [], ◌∷◌, map, refl, sym, ◌∙◌}
use Rattle.asm_source.specs.declared.sources.Place.{Place}
use Rattle.asm_domain.specs.declared.value.Value.TheVariants as value
use Rattle.asm_sign.specs.Vocabulary.{Vocabulary}
use Rattle.asm_node.specs.declared.operator.Op.TheVariants as node
use Rattle.asm_node.specs.Tree as tree
use Rattle.asm_node.specs.Tree.{Tree, Trees}
use Rattle.asm_node.specs.RuleTree as rule
use Rattle.asm_node.specs.RuleTree.{Rule, Rules}
use Rattle.asm_tree.specs.declared.term.RawBind.{RawBind}
use Rattle.asm_tree.specs.declared.term.RawCase.{RawCase}
use Rattle.asm_tree.specs.declared.term.RawTerm.{RawTerm}
use Rattle.asm_tree.specs.declared.term.RawTermKind.{RawTermKind-F}
use Rattle.asm_tree.specs.declared.rule.RawRule.{RawRule}
use Rattle.asm_tree.specs.declared.rule.RawRuleCase.{RawRuleCase}
use Rattle.asm_tree.specs.declared.rule.RawRuleKind.{RawRuleKind-F}
use Rattle.asm_tree.specs.declared.unit.LoadedUnit.{LoadedUnit}
use Rattle.asm_faults.specs.At.{Name}
use Rattle.asm_faults.specs.Terms.{element_in}
use Rattle.asm_faults.specs.Model.{function_number, binders_of, op_of, unary_of, quantifier_tree, trees_of, is_case, switch_tree, let_tree, tree_kind, tree_of, rule_number, parts_of, sequence, sequence_of, switch_rule, let_rule, rule_kind, rule_of}
use Rattle.asm_sound.proofs.Inductions.{Every, Form, Parts, induct}
use Rattle.asm_sound.proofs.RuleForms.{RuleForm, RuleParts, induct_rules, rule_form, rule_is}
use Rattle.asm_sound.proofs.Folding.{tree_form, tree_at}
use Rattle.asm_renaming.proofs.NamedTerms.{NamedTerm, NamedTerms, Const, Var, Get, Oper, Cond, Let, Quant, none, more, term_in, terms_in}
use Rattle.asm_renaming.proofs.NamedRules as named
use Rattle.asm_renaming.proofs.NamedRules.{NamedRule, NamedRules, rule_in, rules_in}

module _ (v : Vocabulary) where
  -- one term with names for the trees under all numberings
  abbrev pub Names : ((Name → ℕ) → Tree) → Type 0
  Names f = (t : NamedTerm) × ((number : Name → ℕ) → term_in number v t ≡ f number)

  abbrev NamesAll : ((Name → ℕ) → Trees) → Type 0
  NamesAll f = (ts : NamedTerms) × ((number : Name → ℕ) → terms_in number v ts ≡ f number)

  abbrev pub Term : RawTerm → Type 0
  Term t = Names (λ number. tree_of number v t)

  all_named : (ts : List RawTerm) → Every Term ts → NamesAll (λ number. trees_of number v (map (tree_of number v) ts))
  all_named [] each = (none, λ number. refl)
  all_named (t ∷ ts) each =
      let others = all_named ts each.1 in
      (more each.0.0 others.0, λ number. λ i. tree.more (each.0.1 number i) (others.1 number i))

  abbrev case_trees : (Name → ℕ) → RawCase → Tree × Tree
  case_trees number c = (tree_of number v c.label, tree_of number v c.value)

  switch_named : (t : RawTerm) → Term t → (cs : List RawCase) → Every (λ (c : RawCase). Term c.label × Term c.value) cs → (u : RawTerm) → Term u
      → Names (λ number. switch_tree number v (tree_of number v t) (map (case_trees number) cs) (tree_of number v u))
  switch_named t own [] each u last = last
  switch_named t own (c ∷ cs) each u last =
      let others = switch_named t own cs each.1 u last in (
        Cond (Oper node.Equal (more own.0 (more each.0.0.0 none))) each.0.1.0 others.0,
        λ number. λ i. tree.Cond (is_case number v (own.1 number i) (each.0.0.1 number i)) (each.0.1.1 number i) (others.1 number i),
      )

  abbrev bound_tree : (Name → ℕ) → RawBind → Name × Tree
  bound_tree number b = (b.variable.text, tree_of number v b.term)

  let_named : (bs : List RawBind) → Every (λ (b : RawBind). Term b.term) bs → (t : RawTerm) → Term t
      → Names (λ number. let_tree number v (map (bound_tree number) bs) (tree_of number v t))
  let_named [] each t body = body
  let_named (b ∷ bs) each t body =
      let others = let_named bs each.1 t body in
      (Let b.variable.text each.0.0 others.0, λ number. λ i. tree.Let (number b.variable.text) (each.0.1 number i) (others.1 number i))

  form_named : (k : Form) → Parts Term k → Names (λ number. tree_kind number v (tree_form number v k))
  form_named (RawTermKind-F.Number x) parts = (Const (value.Int (pos x)), λ number. refl)
  form_named (RawTermKind-F.Truth b) parts = (Const (value.Bool b), λ number. refl)
  form_named RawTermKind-F.Undef parts = (Const value.Undef, λ number. refl)
  form_named (RawTermKind-F.Variable x) parts = (Var x, λ number. refl)
  form_named (RawTermKind-F.Element e) parts = (Const (element_in v.domains e), λ number. refl)
  form_named (RawTermKind-F.Call f ts) parts =
      let all = all_named ts parts in
      (Get (function_number (λ x. 0) v f) all.0, λ number. λ i. tree.Get (function_number number v f) (all.1 number i))
  form_named (RawTermKind-F.Unary o t) parts =
      (Oper (unary_of (λ x. 0) v o) (more parts.0 none), λ number. λ i. tree.Oper (unary_of number v o) (tree.more (parts.1 number i) tree.none))
  form_named (RawTermKind-F.Binary o t u) parts = (
    Oper (op_of (λ x. 0) v o) (more parts.0.0 (more parts.1.0 none)),
    λ number. λ i. tree.Oper (op_of number v o) (tree.more (parts.0.1 number i) (tree.more (parts.1.1 number i) tree.none)),
  )
  form_named (RawTermKind-F.Cond g t u) parts =
      (Cond parts.0.0 parts.1.0 parts.2.0, λ number. λ i. tree.Cond (parts.0.1 number i) (parts.1.1 number i) (parts.2.1 number i))
  form_named (RawTermKind-F.Switch t cs u) parts = switch_named t parts.0 cs parts.1 u parts.2
  form_named (RawTermKind-F.Let bs t) parts = let_named bs parts.0 t parts.1
  form_named (RawTermKind-F.Quant q bs g) parts =
      (Quant (quantifier_tree (λ x. 0) v q) bs parts.0, λ number. λ i. tree.Quant (quantifier_tree number v q) (binders_of number v bs) (parts.1 number i))

  -- each raw term has one with names
  pub term_named : (t : RawTerm) → Term t
  term_named = induct Term (λ at first k parts. let own = form_named k parts in (own.0, λ number. own.1 number ∙ sym (tree_at number v at first k)))

  each_named : (ts : List RawTerm) → Every Term ts
  each_named [] = tt
  each_named (t ∷ ts) = (term_named t, each_named ts)

  -- ---- rules

  module _ (units : List LoadedUnit) (file : ℕ) where
    -- one rule with names for the rules under all numberings
    abbrev pub RuleNames : ((Name → ℕ) → Rule) → Type 0
    RuleNames f = (r : NamedRule) × ((number : Name → ℕ) → rule_in number v r ≡ f number)

    abbrev RuleNamesAll : ((Name → ℕ) → Rules) → Type 0
    RuleNamesAll f = (rs : NamedRules) × ((number : Name → ℕ) → rules_in number v rs ≡ f number)

    abbrev pub OfRule : RawRule → Type 0
    OfRule r = RuleNames (λ number. rule_of number v units file r)

    abbrev place : ℕ → Place
    place at = record { file = file; at = at }

    parts_named : (rs : List RawRule) → Every OfRule rs → RuleNamesAll (λ number. parts_of number v units file (map (rule_of number v units file) rs))
    parts_named [] each = (named.none, λ number. refl)
    parts_named (r ∷ rs) each =
        let others = parts_named rs each.1 in
        (named.more each.0.0 others.0, λ number. λ i. rule.more (each.0.1 number i) (others.1 number i))

    sequence_named : (at : ℕ) (f : (Name → ℕ) → Rule) → RuleNames f → (rs : List RawRule) → Every OfRule rs
        → RuleNames (λ number. sequence number v units file (place at) (f number) (map (rule_of number v units file) rs))
    sequence_named at f own [] each = own
    sequence_named at f own (r ∷ rs) each =
        sequence_named at (λ number. rule.Seq (place at) (f number) (rule_of number v units file r))
        (named.Seq (place at) own.0 each.0.0, λ number. λ i. rule.Seq (place at) (own.1 number i) (each.0.1 number i))
        rs each.1

    sequence_of_named : (at : ℕ) (rs : List RawRule) → Every OfRule rs → RuleNames (λ number. sequence_of number v units file (place at) (map (rule_of number v units file) rs))
    sequence_of_named at [] each = (named.Skip (place at), λ number. refl)
    sequence_of_named at (r ∷ rs) each = sequence_named at (λ number. rule_of number v units file r) each.0 rs each.1

    abbrev case_rules : (Name → ℕ) → RawRuleCase → Tree × Rule
    case_rules number c = (tree_of number v c.label, rule_of number v units file c.rule)

    rule_switch_named : (at : ℕ) (t : RawTerm) (cs : List RawRuleCase) → Every (λ (c : RawRuleCase). OfRule c.rule) cs → (q : RawRule) → OfRule q
        → RuleNames (λ number. switch_rule number v units file (place at) (tree_of number v t) (map (case_rules number) cs) (rule_of number v units file q))
    rule_switch_named at t [] each q last = last
    rule_switch_named at t (c ∷ cs) each q last =
        let own = term_named t in
        let label = term_named c.label in
        let others = rule_switch_named at t cs each.1 q last in (
          named.If (place at) (Oper node.Equal (more own.0 (more label.0 none))) each.0.0 others.0,
          λ number. λ i. rule.If (place at) (is_case number v (own.1 number i) (label.1 number i)) (each.0.1 number i) (others.1 number i),
        )

    rule_let_named : (at : ℕ) (bs : List RawBind) (p : RawRule) → OfRule p → RuleNames (λ number. let_rule number v units file (place at) bs (rule_of number v units file p))
    rule_let_named at [] p body = body
    rule_let_named at (b ∷ bs) p body =
        let own = term_named b.term in
        let others = rule_let_named at bs p body in (
          named.Let (place at) b.variable.text own.0 others.0,
          λ number. λ i. rule.Let (place at) (number b.variable.text) (own.1 number i) (others.1 number i),
        )

    rule_form_named : (at : ℕ) (k : RuleForm) → RuleParts OfRule k → RuleNames (λ number. rule_kind number v units file (rule_form number v units file k) (place at))
    rule_form_named at RawRuleKind-F.Skip parts = (named.Skip (place at), λ number. refl)
    rule_form_named at (RawRuleKind-F.Update f ts t) parts =
        let all = all_named ts (each_named ts) in
        let own = term_named t in (
          named.Update (place at) (function_number (λ x. 0) v f) all.0 own.0,
          λ number. λ i. rule.Update (place at) (function_number number v f) (all.1 number i) (own.1 number i),
        )
    rule_form_named at (RawRuleKind-F.Par rs) parts = let all = parts_named rs parts in (named.Par (place at) all.0, λ number. λ i. rule.Par (place at) (all.1 number i))
    rule_form_named at (RawRuleKind-F.Seq rs) parts = sequence_of_named at rs parts
    rule_form_named at (RawRuleKind-F.If g p q) parts =
        let guard = term_named g in
        (named.If (place at) guard.0 parts.0.0 parts.1.0, λ number. λ i. rule.If (place at) (guard.1 number i) (parts.0.1 number i) (parts.1.1 number i))
    rule_form_named at (RawRuleKind-F.Switch t cs q) parts = rule_switch_named at t cs parts.0 q parts.1
    rule_form_named at (RawRuleKind-F.Let bs p) parts = rule_let_named at bs p parts
    rule_form_named at (RawRuleKind-F.Forall bs g p) parts =
        let guard = term_named g in
        (named.Forall (place at) bs guard.0 parts.0, λ number. λ i. rule.Forall (place at) (binders_of number v bs) (guard.1 number i) (parts.1 number i))
    rule_form_named at (RawRuleKind-F.Choose bs g p q) parts =
        let guard = term_named g in (
          named.Choose (place at) bs guard.0 parts.0.0 parts.1.0,
          λ number. λ i. rule.Choose (place at) (binders_of number v bs) (guard.1 number i) (parts.0.1 number i) (parts.1.1 number i),
        )
    rule_form_named at (RawRuleKind-F.Call r ts) parts =
        let all = all_named ts (each_named ts) in
        (named.Call (place at) (rule_number (λ x. 0) v units file r) all.0, λ number. λ i. rule.Call (place at) (rule_number number v units file r) (all.1 number i))

    -- each raw rule has one with names
    pub rule_named : (r : RawRule) → OfRule r
    rule_named = induct_rules OfRule (λ at k parts. let own = rule_form_named at k parts in (own.0, λ number. own.1 number ∙ sym (rule_is number v units file at k)))
