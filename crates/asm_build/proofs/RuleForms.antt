-- The trees of raw rules, by their variants.
use Rattle.std.proofs.Common.{◌≡◌, ℕ, List, [], ◌∷◌, map, refl, ap, sym, ◌∙◌}
use mathlib.Core.Former.{Count}
use Rattle.std.specs.declared.rc.Rc.{Rc}
use Rattle.std.specs.declared.alloc.Global.{Global}
use Rattle.std.specs.Prelude.{⊤}
use Rattle.std.proofs.Common.{suc, All, subst, arith}
use Rattle.asm_source.specs.declared.sources.Place.{Place}
use Rattle.asm_sign.specs.Vocabulary.{Vocabulary}
use Rattle.asm_node.specs.declared.operator.Op.TheVariants.{Equal}
use Rattle.asm_node.specs.declared.term.Term.{Term}
use Rattle.asm_node.specs.declared.rule.Rule as of_rule
use Rattle.asm_node.specs.declared.rule.RuleKind.{RuleKind, Row_of-RuleKind-Par-1-1, end_of-RuleKind-Par-1-1, more_of-RuleKind-Par-1-1, items-the_row-RuleKind-Par-1-1, items_hidden-the_row-RuleKind-Par-1-1-0}
use Rattle.asm_node.specs.declared.rule.RuleKind as form
use Rattle.asm_node.specs.Pool.{HasRule, HasRules, HasParts}
use Rattle.asm_node.specs.Tree as term
use Rattle.asm_node.specs.Tree.{Tree, Trees, plain, plain_all}
use Rattle.asm_node.specs.RuleTree as tree
use Rattle.asm_node.specs.RuleTree.{Rule, Rules, plain_kind, plain_row, plain_rule, plain_rules}
use Rattle.asm_tree.specs.declared.term.RawTerm.{RawTerm}
use Rattle.asm_tree.specs.declared.term.RawBind.{RawBind}
use Rattle.asm_tree.specs.declared.term.RawBinder.{RawBinder}
use Rattle.asm_tree.specs.declared.rule.RawRule.{RawRule, RawRule-F, fold_out-RawRule}
use Rattle.asm_tree.specs.declared.rule.RawRuleKind.{RawRuleKind, fold-RawRuleKind, fold-roll-RawRuleKind}
use Rattle.asm_tree.specs.declared.rule.RawRuleKind.TheVariants as rule_kinds
use Rattle.asm_tree.specs.declared.rule.RawRuleKind.TheOpen.{RawRuleKind-F, RawRuleCase-F}
use Rattle.asm_tree.specs.declared.rule.RawRuleCase.{RawRuleCase, fold-RawRuleCase, fold_out-RawRuleCase}
use Rattle.asm_tree.specs.declared.unit.LoadedUnit.{LoadedUnit}
use Rattle.asm_faults.specs.At.{Name}
use Rattle.asm_faults.specs.Model.{tree_of, trees_of, function_number, rule_number, binders_of, rule_of, rule_kind, parts_of, sequence, sequence_of, switch_rule, let_rule}
use Rattle.asm_build.specs.MadeRules.{plains_of_rules}
use Rattle.asm_build.specs.RuleParts.{rule_cases_from, rule_bounds_from, sequence_on, sequence_from}

-- ---- nodes with lists of rules

plain_row-items : {n : Count} (row : Row_of-RuleKind-Par-1-1 n) → plain_row row ≡ plain_rules (items-the_row-RuleKind-Par-1-1 n row)
plain_row-items end_of-RuleKind-Par-1-1 = refl
plain_row-items (more_of-RuleKind-Par-1-1 _ _ p row) = ap (tree.more (plain_kind p)) (plain_row-items row)

abbrev row_of : RuleKind → (n : Count) × Row_of-RuleKind-Par-1-1 n
row_of (form.Par' _ _ row) = (_, row)
row_of _ = (_, end_of-RuleKind-Par-1-1)

pub plain_kind-Par : (place : Place) (ps : List (Rc of_rule.Rule Global)) → plain_kind (form.Par place ps) ≡ tree.Par place (plain_rules ps)
plain_kind-Par place ps = ap (tree.Par place) (plain_row-items (row_of (form.Par place ps)).1 ∙ ap plain_rules (items_hidden-the_row-RuleKind-Par-1-1-0 ps))

abbrev HasEach : List of_rule.Rule → List (Rc of_rule.Rule Global) → Type 0
HasEach rules [] = ⊤
HasEach rules (p ∷ ps) = HasRule rules p.value × HasEach rules ps

has_each : (rules : List of_rule.Rule) (ps : List (Rc of_rule.Rule Global)) → All (λ p. HasRule rules p.value) ps → HasEach rules ps
has_each rules [] has = tt
has_each rules (p ∷ ps) has = (has 0 p (omega arith), has_each rules ps (λ k d lt. has (suc k) d (omega (arith, lt))))

row_has : (rules : List of_rule.Rule) {n : Count} (row : Row_of-RuleKind-Par-1-1 n) → HasEach rules (items-the_row-RuleKind-Par-1-1 n row) → HasRules rules row
row_has rules end_of-RuleKind-Par-1-1 has = tt
row_has rules (more_of-RuleKind-Par-1-1 _ id p row) has = (has.0, row_has rules row has.1)

pub children-Par : (terms : List Term) (rules : List of_rule.Rule) (place : Place) (ps : List (Rc of_rule.Rule Global)) → All (λ p. HasRule rules p.value) ps → HasParts terms rules (form.Par place ps)
children-Par terms rules place ps has = row_has rules (row_of (form.Par place ps)).1 (subst (HasEach rules) (sym (items_hidden-the_row-RuleKind-Par-1-1-0 ps)) (has_each rules ps has))

pub all_parts : (number : Name → ℕ) (v : Vocabulary) (units : List LoadedUnit) (file : ℕ) (ps : List (Rc of_rule.Rule Global)) → plain_rules ps ≡ parts_of number v units file (plains_of_rules ps)
all_parts number v units file [] = refl
all_parts number v units file (p ∷ ps) = ap (tree.more (plain_rule p.value)) (all_parts number v units file ps)

module _ (number : Name → ℕ) (v : Vocabulary) (units : List LoadedUnit) (file : ℕ) where
  abbrev K : Type 0
  K = Place → Rule

  abbrev C : Type 0
  C = Tree × Rule

  abbrev at : RawRule → Place
  at r = record { file = file; at = r.at }

  abbrev case_step : RawRuleCase-F K Rule C → C
  case_step c = (tree_of number v c.label, c.rule)

  abbrev rule_step : RawRule-F K Rule C → Rule
  rule_step r = r.kind (record { file = file; at = r.at })

  abbrev kinds : RawRuleKind-F K Rule C → K
  kinds = rule_kind number v units file

  abbrev kind_rule : RawRuleKind → K
  kind_rule = fold-RawRuleKind K Rule C kinds rule_step case_step

  abbrev case_rule : RawRuleCase → C
  case_rule = fold-RawRuleCase K Rule C kinds rule_step case_step

  of_rule' : (r : RawRule) → rule_of number v units file r ≡ kind_rule r.kind (at r)
  of_rule' r = fold_out-RawRule K Rule C kinds rule_step case_step r

  of_case : (c : RawRuleCase) → case_rule c ≡ (tree_of number v c.label, rule_of number v units file c.rule)
  of_case c = fold_out-RawRuleCase K Rule C kinds rule_step case_step c

  formed : (r : RawRule) (k : RawRuleKind) (f : RawRuleKind-F K Rule C) → r.kind ≡ k → kind_rule k ≡ kinds f → rule_of number v units file r ≡ kinds f (at r)
  formed r k f e h = of_rule' r ∙ ap (λ (x : RawRuleKind). kind_rule x (at r)) e ∙ ap (λ (g : K). g (at r)) h

  in_sequence : (place : Place) (p : Rule) (qs : List Rule) → sequence_on place p qs ≡ sequence number v units file place p qs
  in_sequence place p [] = refl
  in_sequence place p (q ∷ qs) = in_sequence place (tree.Seq place p q) qs

  from_parts : (place : Place) (ps : List Rule) → sequence_from place ps ≡ sequence_of number v units file place ps
  from_parts place [] = refl
  from_parts place (p ∷ ps) = in_sequence place p ps

  nested : (place : Place) (x : Tree) (cs : List RawRuleCase) (q : Rule)
      → rule_cases_from place x (map (λ (c : RawRuleCase). tree_of number v c.label) cs) (map (λ (c : RawRuleCase). rule_of number v units file c.rule) cs) q ≡ switch_rule number v units file place x (map case_rule cs) q
  nested place x [] q = refl
  nested place x (c ∷ cs) q =
      ap (tree.If place (term.Oper Equal (term.more x (term.more (tree_of number v c.label) term.none))) (rule_of number v units file c.rule)) (nested place x cs q)
      ∙ ap (λ (y : C). switch_rule number v units file place x (y ∷ map case_rule cs) q) (sym (of_case c))

  bounded : (place : Place) (bs : List RawBind) (q : Rule) → rule_bounds_from place (map (λ (b : RawBind). number b.variable.text) bs) (map (λ (b : RawBind). tree_of number v b.term) bs) q ≡ let_rule number v units file place bs q
  bounded place [] q = refl
  bounded place (b ∷ bs) q = ap (tree.Let place (number b.variable.text) (tree_of number v b.term)) (bounded place bs q)

  pub skip_is : (r : RawRule) → r.kind ≡ rule_kinds.Skip → tree.Skip (at r) ≡ rule_of number v units file r
  skip_is r e = sym (formed r rule_kinds.Skip (RawRuleKind-F.Skip) e (ap kind_rule (sym (rule_kinds.rolls-Skip)) ∙ fold-roll-RawRuleKind K Rule C kinds rule_step case_step RawRuleKind-F.Skip))

  pub update_is : (r : RawRule) (f : Name) (ts : List RawTerm) (t : RawTerm) → r.kind ≡ rule_kinds.Update f ts t → tree.Update (at r) (function_number number v f) (trees_of number v (map (tree_of number v) ts)) (tree_of number v t) ≡ rule_of number v units file r
  update_is r f ts t e = sym (formed r (rule_kinds.Update f ts t) (RawRuleKind-F.Update f ts t) e (ap kind_rule (sym (rule_kinds.rolls-Update f ts t)) ∙ fold-roll-RawRuleKind K Rule C kinds rule_step case_step (RawRuleKind-F.Update f ts t)))

  pub par_is : (r : RawRule) (ps : List RawRule) → r.kind ≡ rule_kinds.Par ps → tree.Par (at r) (parts_of number v units file (map (rule_of number v units file) ps)) ≡ rule_of number v units file r
  par_is r ps e = sym (formed r (rule_kinds.Par ps) (RawRuleKind-F.Par (map (rule_of number v units file) ps)) e (ap kind_rule (sym (rule_kinds.rolls-Par ps)) ∙ fold-roll-RawRuleKind K Rule C kinds rule_step case_step (RawRuleKind-F.Par ps)))

  pub seq_is : (r : RawRule) (ps : List RawRule) → r.kind ≡ rule_kinds.Seq ps → sequence_from (at r) (map (rule_of number v units file) ps) ≡ rule_of number v units file r
  seq_is r ps e = from_parts (at r) (map (rule_of number v units file) ps) ∙ sym (formed r (rule_kinds.Seq ps) (RawRuleKind-F.Seq (map (rule_of number v units file) ps)) e (ap kind_rule (sym (rule_kinds.rolls-Seq ps)) ∙ fold-roll-RawRuleKind K Rule C kinds rule_step case_step (RawRuleKind-F.Seq ps)))

  pub if_is : (r : RawRule) (g : RawTerm) (p : RawRule) (q : RawRule) → r.kind ≡ rule_kinds.If g p q → tree.If (at r) (tree_of number v g) (rule_of number v units file p) (rule_of number v units file q) ≡ rule_of number v units file r
  if_is r g p q e = sym (formed r (rule_kinds.If g p q) (RawRuleKind-F.If g (rule_of number v units file p) (rule_of number v units file q)) e (ap kind_rule (sym (rule_kinds.rolls-If g p q)) ∙ fold-roll-RawRuleKind K Rule C kinds rule_step case_step (RawRuleKind-F.If g p q)))

  pub switch_is : (r : RawRule) (t : RawTerm) (cs : List RawRuleCase) (q : RawRule) → r.kind ≡ rule_kinds.Switch t cs q → rule_cases_from (at r) (tree_of number v t) (map (λ (c : RawRuleCase). tree_of number v c.label) cs) (map (λ (c : RawRuleCase). rule_of number v units file c.rule) cs) (rule_of number v units file q) ≡ rule_of number v units file r
  switch_is r t cs q e = nested (at r) (tree_of number v t) cs (rule_of number v units file q) ∙ sym (formed r (rule_kinds.Switch t cs q) (RawRuleKind-F.Switch t (map case_rule cs) (rule_of number v units file q)) e (ap kind_rule (sym (rule_kinds.rolls-Switch t cs q)) ∙ fold-roll-RawRuleKind K Rule C kinds rule_step case_step (RawRuleKind-F.Switch t cs q)))

  pub let_is : (r : RawRule) (bs : List RawBind) (q : RawRule) → r.kind ≡ rule_kinds.Let bs q → rule_bounds_from (at r) (map (λ (b : RawBind). number b.variable.text) bs) (map (λ (b : RawBind). tree_of number v b.term) bs) (rule_of number v units file q) ≡ rule_of number v units file r
  let_is r bs q e = bounded (at r) bs (rule_of number v units file q) ∙ sym (formed r (rule_kinds.Let bs q) (RawRuleKind-F.Let bs (rule_of number v units file q)) e (ap kind_rule (sym (rule_kinds.rolls-Let bs q)) ∙ fold-roll-RawRuleKind K Rule C kinds rule_step case_step (RawRuleKind-F.Let bs q)))

  pub forall_is : (r : RawRule) (bs : List RawBinder) (g : RawTerm) (p : RawRule) → r.kind ≡ rule_kinds.Forall bs g p → tree.Forall (at r) (binders_of number v bs) (tree_of number v g) (rule_of number v units file p) ≡ rule_of number v units file r
  forall_is r bs g p e = sym (formed r (rule_kinds.Forall bs g p) (RawRuleKind-F.Forall bs g (rule_of number v units file p)) e (ap kind_rule (sym (rule_kinds.rolls-Forall bs g p)) ∙ fold-roll-RawRuleKind K Rule C kinds rule_step case_step (RawRuleKind-F.Forall bs g p)))

  pub choose_is : (r : RawRule) (bs : List RawBinder) (g : RawTerm) (p : RawRule) (q : RawRule) → r.kind ≡ rule_kinds.Choose bs g p q → tree.Choose (at r) (binders_of number v bs) (tree_of number v g) (rule_of number v units file p) (rule_of number v units file q) ≡ rule_of number v units file r
  choose_is r bs g p q e = sym (formed r (rule_kinds.Choose bs g p q) (RawRuleKind-F.Choose bs g (rule_of number v units file p) (rule_of number v units file q)) e (ap kind_rule (sym (rule_kinds.rolls-Choose bs g p q)) ∙ fold-roll-RawRuleKind K Rule C kinds rule_step case_step (RawRuleKind-F.Choose bs g p q)))

  pub call_is : (r : RawRule) (f : Name) (ts : List RawTerm) → r.kind ≡ rule_kinds.Call f ts → tree.Call (at r) (rule_number number v units file f) (trees_of number v (map (tree_of number v) ts)) ≡ rule_of number v units file r
  call_is r f ts e = sym (formed r (rule_kinds.Call f ts) (RawRuleKind-F.Call f ts) e (ap kind_rule (sym (rule_kinds.rolls-Call f ts)) ∙ fold-roll-RawRuleKind K Rule C kinds rule_step case_step (RawRuleKind-F.Call f ts)))
