-- What is wrong with a rule, by its variants.
use Rattle.std.proofs.Common.{◌≡◌, ℕ, List, [], ◌∷◌, ◌++◌, Option, refl, ap, sym, ◌∙◌}
use Rattle.std.specs.Prelude.{map}
use Rattle.std.specs.List.{flat_map}
use Rattle.asm_sign.specs.Vocabulary.{Vocabulary}
use Rattle.asm_node.specs.declared.term_type.TermType.{TermType}
use Rattle.asm_tree.specs.declared.term.RawBinder.{RawBinder}
use Rattle.asm_tree.specs.declared.term.RawBind.{RawBind}
use Rattle.asm_tree.specs.declared.term.RawTerm.{RawTerm}
use Rattle.asm_tree.specs.declared.rule.RawRule.{RawRule, RawRule-F, fold_out-RawRule}
use Rattle.asm_tree.specs.declared.rule.RawRuleKind.{RawRuleKind, fold-RawRuleKind, fold-roll-RawRuleKind}
use Rattle.asm_tree.specs.declared.rule.RawRuleKind.TheVariants as rule_kind
use Rattle.asm_tree.specs.declared.rule.RawRuleKind.TheOpen.{RawRuleKind-F, RawRuleCase-F}
use Rattle.asm_tree.specs.declared.rule.RawRuleCase.{RawRuleCase, fold-RawRuleCase, fold_out-RawRuleCase}
use Rattle.asm_faults.specs.declared.fault.Fault.{Fault}
use Rattle.asm_faults.specs.At.{Name}
use Rattle.asm_faults.specs.Terms.{Scope, judged, or_else, asked}
use Rattle.asm_faults.specs.Bodies.{RuleHead, Faults, Kind, kind_faults, rule_faults, case_faults}
use Rattle.asm_typing.specs.RulePieces.{cases_faults}

module _ (v : Vocabulary) (heads : List RuleHead) (n : ℕ) where
  abbrev pub F : Type 0
  F = Faults v heads n

  abbrev pub K : Type 0
  K = Kind v heads n

  abbrev pub C : Type 0
  C = RawTerm × F

  abbrev pub Layer : Type 0
  Layer = RawRuleKind-F K F C

  abbrev pub of_rule : RawRule-F K F C → F
  of_rule r = r.kind r.at

  abbrev pub of_case : RawRuleCase-F K F C → C
  of_case c = (c.label, c.rule)

  abbrev pub kind_of : RawRuleKind → K
  kind_of = fold-RawRuleKind K F C (kind_faults v heads n) of_rule of_case

  abbrev pub case_of : RawRuleCase → C
  case_of = fold-RawRuleCase K F C (kind_faults v heads n) of_rule of_case

  abbrev pub faults : RawRule → F
  faults = rule_faults v heads n

  rule_is : (r : RawRule) → faults r ≡ kind_of r.kind r.at
  rule_is r = fold_out-RawRule K F C (kind_faults v heads n) of_rule of_case r

  case_is : (c : RawRuleCase) → case_of c ≡ (c.label, faults c.rule)
  case_is c = fold_out-RawRuleCase K F C (kind_faults v heads n) of_rule of_case c

  -- a rule of this form
  formed : (r : RawRule) (k : RawRuleKind) (f : Layer) (s : Scope) → r.kind ≡ k → kind_of k ≡ kind_faults v heads n f → faults r s ≡ kind_faults v heads n f r.at s
  formed r k f s e h = ap (λ (p : F). p s) (rule_is r) ∙ ap (λ (x : RawRuleKind). kind_of x r.at s) e ∙ ap (λ (g : K). g r.at s) h

  pub skip : (r : RawRule) (s : Scope) → r.kind ≡ rule_kind.Skip → faults r s ≡ []
  skip r s e = formed r rule_kind.Skip RawRuleKind-F.Skip s e (ap kind_of (sym rule_kind.rolls-Skip) ∙ fold-roll-RawRuleKind K F C (kind_faults v heads n) of_rule of_case RawRuleKind-F.Skip)

  pub update : (r : RawRule) (s : Scope) (f : Name) (ts : List RawTerm) (t : RawTerm) → r.kind ≡ rule_kind.Update f ts t → faults r s ≡ kind_faults v heads n (RawRuleKind-F.Update f ts t) r.at s
  update r s f ts t e = formed r (rule_kind.Update f ts t) (RawRuleKind-F.Update f ts t) s e (ap kind_of (sym (rule_kind.rolls-Update f ts t)) ∙ fold-roll-RawRuleKind K F C (kind_faults v heads n) of_rule of_case (RawRuleKind-F.Update f ts t))

  each : (s : Scope) (rs : List RawRule) → flat_map (λ (p : F). p s) (map faults rs) ≡ flat_map (λ (r : RawRule). faults r s) rs
  each s [] = refl
  each s (r ∷ rs) = ap (λ (xs : List Fault). faults r s ++ xs) (each s rs)

  pub par : (r : RawRule) (s : Scope) (rs : List RawRule) → r.kind ≡ rule_kind.Par rs → faults r s ≡ flat_map (λ (p : RawRule). faults p s) rs
  par r s rs e = formed r (rule_kind.Par rs) (RawRuleKind-F.Par (map faults rs)) s e (ap kind_of (sym (rule_kind.rolls-Par rs)) ∙ fold-roll-RawRuleKind K F C (kind_faults v heads n) of_rule of_case (RawRuleKind-F.Par rs)) ∙ each s rs

  pub seq : (r : RawRule) (s : Scope) (rs : List RawRule) → r.kind ≡ rule_kind.Seq rs → faults r s ≡ flat_map (λ (p : RawRule). faults p s) rs
  seq r s rs e = formed r (rule_kind.Seq rs) (RawRuleKind-F.Seq (map faults rs)) s e (ap kind_of (sym (rule_kind.rolls-Seq rs)) ∙ fold-roll-RawRuleKind K F C (kind_faults v heads n) of_rule of_case (RawRuleKind-F.Seq rs)) ∙ each s rs

  pub cond : (r : RawRule) (s : Scope) (g : RawTerm) (p q : RawRule) → r.kind ≡ rule_kind.If g p q → faults r s ≡ kind_faults v heads n (RawRuleKind-F.If g (faults p) (faults q)) r.at s
  cond r s g p q e = formed r (rule_kind.If g p q) (RawRuleKind-F.If g (faults p) (faults q)) s e (ap kind_of (sym (rule_kind.rolls-If g p q)) ∙ fold-roll-RawRuleKind K F C (kind_faults v heads n) of_rule of_case (RawRuleKind-F.If g p q))

  pub bound : (r : RawRule) (s : Scope) (bs : List RawBind) (p : RawRule) → r.kind ≡ rule_kind.Let bs p → faults r s ≡ kind_faults v heads n (RawRuleKind-F.Let bs (faults p)) r.at s
  bound r s bs p e = formed r (rule_kind.Let bs p) (RawRuleKind-F.Let bs (faults p)) s e (ap kind_of (sym (rule_kind.rolls-Let bs p)) ∙ fold-roll-RawRuleKind K F C (kind_faults v heads n) of_rule of_case (RawRuleKind-F.Let bs p))

  pub forall_ : (r : RawRule) (s : Scope) (bs : List RawBinder) (g : RawTerm) (p : RawRule) → r.kind ≡ rule_kind.Forall bs g p → faults r s ≡ kind_faults v heads n (RawRuleKind-F.Forall bs g (faults p)) r.at s
  forall_ r s bs g p e = formed r (rule_kind.Forall bs g p) (RawRuleKind-F.Forall bs g (faults p)) s e (ap kind_of (sym (rule_kind.rolls-Forall bs g p)) ∙ fold-roll-RawRuleKind K F C (kind_faults v heads n) of_rule of_case (RawRuleKind-F.Forall bs g p))

  pub choose : (r : RawRule) (s : Scope) (bs : List RawBinder) (g : RawTerm) (p q : RawRule) → r.kind ≡ rule_kind.Choose bs g p q → faults r s ≡ kind_faults v heads n (RawRuleKind-F.Choose bs g (faults p) (faults q)) r.at s
  choose r s bs g p q e = formed r (rule_kind.Choose bs g p q) (RawRuleKind-F.Choose bs g (faults p) (faults q)) s e (ap kind_of (sym (rule_kind.rolls-Choose bs g p q)) ∙ fold-roll-RawRuleKind K F C (kind_faults v heads n) of_rule of_case (RawRuleKind-F.Choose bs g p q))

  pub call : (r : RawRule) (s : Scope) (f : Name) (ts : List RawTerm) → r.kind ≡ rule_kind.Call f ts → faults r s ≡ kind_faults v heads n (RawRuleKind-F.Call f ts) r.at s
  call r s f ts e = formed r (rule_kind.Call f ts) (RawRuleKind-F.Call f ts) s e (ap kind_of (sym (rule_kind.rolls-Call f ts)) ∙ fold-roll-RawRuleKind K F C (kind_faults v heads n) of_rule of_case (RawRuleKind-F.Call f ts))

  cases_are : (label : Option TermType) (s : Scope) (cs : List RawRuleCase) → case_faults v heads n label s (map case_of cs) ≡ cases_faults v heads n label s cs
  cases_are label s [] = refl
  cases_are label s (c ∷ cs) =
      ap (λ (x : C). case_faults v heads n label s (x ∷ map case_of cs)) (case_is c)
      ∙ ap (λ (xs : List Fault). asked v n label s (judged v n c.label) ++ (faults c.rule s ++ xs)) (cases_are (or_else label ((judged v n c.label).type s)) s cs)

  pub switch : (r : RawRule) (s : Scope) (t : RawTerm) (cs : List RawRuleCase) (q : RawRule) → r.kind ≡ rule_kind.Switch t cs q
      → faults r s ≡ (judged v n t).faults s ++ (cases_faults v heads n ((judged v n t).type s) s cs ++ faults q s)
  switch r s t cs q e =
      formed r (rule_kind.Switch t cs q) (RawRuleKind-F.Switch t (map case_of cs) (faults q)) s e (ap kind_of (sym (rule_kind.rolls-Switch t cs q)) ∙ fold-roll-RawRuleKind K F C (kind_faults v heads n) of_rule of_case (RawRuleKind-F.Switch t cs q))
      ∙ ap (λ (xs : List Fault). (judged v n t).faults s ++ (xs ++ faults q s)) (cases_are ((judged v n t).type s) s cs)
