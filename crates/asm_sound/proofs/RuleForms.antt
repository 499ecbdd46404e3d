-- Inductions over rules by their forms, and faults and trees of rules at a form.
use Rattle.std.proofs.Common.{◌≡◌, ℕ, List, ap, subst, ◌∙◌}
use Rattle.std.proofs.Math.Path.{fun_ext}
use Rattle.asm_source.specs.declared.sources.Place.{Place}
use Rattle.asm_sign.specs.Vocabulary.{Vocabulary}
use Rattle.asm_node.specs.Tree.{Tree}
use Rattle.asm_node.specs.RuleTree.{Rule}
use Rattle.asm_tree.specs.declared.term.RawTerm.{RawTerm}
use Rattle.asm_tree.specs.declared.rule.RawRule.{RawRule, RawRule-F, fold-RawRule, fold_out-RawRule, ind-RawRule}
use Rattle.asm_tree.specs.declared.rule.RawRuleCase.{RawRuleCase, RawRuleCase-F, fold-RawRuleCase, fold_out-RawRuleCase}
use Rattle.asm_tree.specs.declared.rule.RawRuleKind.{RawRuleKind, RawRuleKind-F, roll-RawRuleKind, map-RawRuleKind, fold-RawRuleKind, fold-roll-RawRuleKind}
use Rattle.asm_tree.specs.declared.unit.LoadedUnit.{LoadedUnit}
use Rattle.asm_faults.specs.At.{Name}
use Rattle.asm_faults.specs.Bodies.{RuleHead, Kind, Faults, kind_faults, rule_faults}
use Rattle.asm_faults.specs.Model.{place_at, rule_kind, rule_of, tree_of}
use Rattle.asm_sound.proofs.Inductions.{Every, every}

-- a rule without its place, whose parts are rules
abbrev pub RuleForm : Type 0
RuleForm = RawRuleKind-F RawRuleKind RawRule RawRuleCase

abbrev pub rule_at : ℕ → RuleForm → RawRule
rule_at at k = record { at = at; kind = roll-RawRuleKind k }

-- a fact of each part of a rule that is a rule
abbrev pub RuleParts : (RawRule → Type 0) → RuleForm → Type 0
RuleParts P RawRuleKind-F.Skip = Unit {0}
RuleParts P (RawRuleKind-F.Update f ts t) = Unit {0}
RuleParts P (RawRuleKind-F.Par rs) = Every P rs
RuleParts P (RawRuleKind-F.Seq rs) = Every P rs
RuleParts P (RawRuleKind-F.If g p q) = P p × P q
RuleParts P (RawRuleKind-F.Switch t cs q) = Every (λ (c : RawRuleCase). P c.rule) cs × P q
RuleParts P (RawRuleKind-F.Let bs p) = P p
RuleParts P (RawRuleKind-F.Forall bs g p) = P p
RuleParts P (RawRuleKind-F.Choose bs g p q) = P p × P q
RuleParts P (RawRuleKind-F.Call r ts) = Unit {0}

module _ (P : RawRule → Type 0) where
  abbrev OfKind : RawRuleKind → Type 0
  OfKind k = (at : ℕ) → P (record { at = at; kind = k })

  abbrev OfCase : RawRuleCase → Type 0
  OfCase c = P c.rule

  abbrev Known : Type 0
  Known = RawRuleKind-F ((k : RawRuleKind) × OfKind k) ((r : RawRule) × P r) ((c : RawRuleCase) × OfCase c)

  abbrev form_of : Known → RuleForm
  form_of = map-RawRuleKind ((k : RawRuleKind) × OfKind k) ((r : RawRule) × P r) ((c : RawRuleCase) × OfCase c) RawRuleKind RawRule RawRuleCase (λ e. e.0) (λ e. e.0) (λ e. e.0)

  parts : (y : Known) → RuleParts P (form_of y)
  parts RawRuleKind-F.Skip = tt
  parts (RawRuleKind-F.Update f ts t) = tt
  parts (RawRuleKind-F.Par rs) = every P rs
  parts (RawRuleKind-F.Seq rs) = every P rs
  parts (RawRuleKind-F.If g p q) = (p.1, q.1)
  parts (RawRuleKind-F.Switch t cs q) = (every OfCase cs, q.1)
  parts (RawRuleKind-F.Let bs p) = p.1
  parts (RawRuleKind-F.Forall bs g p) = p.1
  parts (RawRuleKind-F.Choose bs g p q) = (p.1, q.1)
  parts (RawRuleKind-F.Call r ts) = tt

  -- a fact of each rule
  pub induct_rules : ((at : ℕ) (k : RuleForm) → RuleParts P k → P (rule_at at k)) → (r : RawRule) → P r
  induct_rules f =
      ind-RawRule OfKind P OfCase
      (λ x y e at. subst (λ (z : RuleForm). P (rule_at at z)) e (f at (form_of y) (parts y)))
      (λ x y e. subst (λ (z : RawRule-F RawRuleKind RawRule RawRuleCase). P (record { at = z.at; kind = z.kind })) e (y.kind.1 y.at))
      (λ x y e. subst (λ (z : RawRuleCase-F RawRuleKind RawRule RawRuleCase). P z.rule) e y.rule.1)

-- a fold at a form is its step over the folds of the parts
module _ (A B C : Type 0) (kind : RawRuleKind-F A B C → A) (rule : RawRule-F A B C → B) (case : RawRuleCase-F A B C → C) where
  abbrev fold : RawRule → B
  fold = fold-RawRule A B C kind rule case

  abbrev each_kind : RawRuleKind → A
  each_kind = fold-RawRuleKind A B C kind rule case

  abbrev each_case : RawRuleCase → C
  each_case c = case (record { label = c.label; rule = fold c.rule })

  abbrev pub folded_rule : RuleForm → RawRuleKind-F A B C
  folded_rule = map-RawRuleKind RawRuleKind RawRule RawRuleCase A B C each_kind fold each_case

  cases : fold-RawRuleCase A B C kind rule case ≡ each_case
  cases = fun_ext (λ c. fold_out-RawRuleCase A B C kind rule case c)

  pub fold_rule_at : (at : ℕ) (k : RuleForm) → fold (rule_at at k) ≡ rule (record { at = at; kind = kind (folded_rule k) })
  fold_rule_at at k =
      fold_out-RawRule A B C kind rule case (rule_at at k)
      ∙ ap (λ (z : A). rule (record { at = at; kind = z }))
      (fold-roll-RawRuleKind A B C kind rule case k ∙ ap (λ (g : RawRuleCase → C). kind (map-RawRuleKind RawRuleKind RawRule RawRuleCase A B C each_kind fold g k)) cases)

-- ---- faults

module _ (v : Vocabulary) (heads : List RuleHead) (n : ℕ) where
  abbrev faults_rule : RawRule-F (Kind v heads n) (Faults v heads n) (RawTerm × Faults v heads n) → Faults v heads n
  faults_rule r = r.kind r.at

  abbrev faults_case : RawRuleCase-F (Kind v heads n) (Faults v heads n) (RawTerm × Faults v heads n) → RawTerm × Faults v heads n
  faults_case c = (c.label, c.rule)

  abbrev pub faults_form : RuleForm → RawRuleKind-F (Kind v heads n) (Faults v heads n) (RawTerm × Faults v heads n)
  faults_form = folded_rule (Kind v heads n) (Faults v heads n) (RawTerm × Faults v heads n) (kind_faults v heads n) faults_rule faults_case

  pub faults_at : (at : ℕ) (k : RuleForm) → rule_faults v heads n (rule_at at k) ≡ kind_faults v heads n (faults_form k) at
  faults_at = fold_rule_at (Kind v heads n) (Faults v heads n) (RawTerm × Faults v heads n) (kind_faults v heads n) faults_rule faults_case

-- ---- trees

module _ (number : Name → ℕ) (v : Vocabulary) (units : List LoadedUnit) (file : ℕ) where
  abbrev tree_rule : RawRule-F (Place → Rule) Rule (Tree × Rule) → Rule
  tree_rule r = r.kind (place_at number v units file r.at)

  abbrev tree_case : RawRuleCase-F (Place → Rule) Rule (Tree × Rule) → Tree × Rule
  tree_case c = (tree_of number v c.label, c.rule)

  abbrev pub rule_form : RuleForm → RawRuleKind-F (Place → Rule) Rule (Tree × Rule)
  rule_form = folded_rule (Place → Rule) Rule (Tree × Rule) (rule_kind number v units file) tree_rule tree_case

  pub rule_is : (at : ℕ) (k : RuleForm) → rule_of number v units file (rule_at at k) ≡ rule_kind number v units file (rule_form k) (place_at number v units file at)
  rule_is = fold_rule_at (Place → Rule) Rule (Tree × Rule) (rule_kind number v units file) tree_rule tree_case
