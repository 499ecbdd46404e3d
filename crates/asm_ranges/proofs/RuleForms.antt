-- What is refused in a rule, by its variants.
use Rattle.std.proofs.Common.{◌≡◌, ℕ, List, [], ◌∷◌, refl, ap, sym, ◌∙◌}
use Rattle.std.specs.Prelude.{map}
use Rattle.asm_sign.specs.Vocabulary.{Vocabulary}
use Rattle.asm_tree.specs.declared.term.RawBinder.{RawBinder}
use Rattle.asm_tree.specs.declared.term.RawTerm.{RawTerm}
use Rattle.asm_tree.specs.declared.term.RawBind.{RawBind}
use Rattle.asm_tree.specs.declared.rule.RawRule.{RawRule, RawRule-F, fold_out-RawRule}
use Rattle.asm_tree.specs.declared.rule.RawRuleKind.{RawRuleKind, fold-RawRuleKind, fold-roll-RawRuleKind}
use Rattle.asm_tree.specs.declared.rule.RawRuleKind.TheVariants as form
use Rattle.asm_tree.specs.declared.rule.RawRuleKind.TheOpen.{RawRuleKind-F, RawRuleCase-F}
use Rattle.asm_tree.specs.declared.rule.RawRuleCase.{RawRuleCase, fold-RawRuleCase, fold_out-RawRuleCase}
use Rattle.asm_faults.specs.At.{Name}
use Rattle.asm_faults.specs.Ranges.{rule_kind, rule_faults}
use Rattle.asm_ranges.specs.Pieces.{Faults, rules_measured, rule_cases_measured}

module _ (v : Vocabulary) (n : ℕ) where
  abbrev pub C : Type 0
  C = RawTerm × Faults

  abbrev pub Layer : Type 0
  Layer = RawRuleKind-F Faults Faults C

  abbrev of_rule : RawRule-F Faults Faults C → Faults
  of_rule r = r.kind

  abbrev of_case : RawRuleCase-F Faults Faults C → C
  of_case c = (c.label, c.rule)

  abbrev pub kind_faults : RawRuleKind → Faults
  kind_faults = fold-RawRuleKind Faults Faults C (rule_kind v n) of_rule of_case

  abbrev pub case_of : RawRuleCase → C
  case_of = fold-RawRuleCase Faults Faults C (rule_kind v n) of_rule of_case

  whole_rule : (r : RawRule) → rule_faults v n r ≡ kind_faults r.kind
  whole_rule r = fold_out-RawRule Faults Faults C (rule_kind v n) of_rule of_case r

  whole_case : (c : RawRuleCase) → case_of c ≡ (c.label, rule_faults v n c.rule)
  whole_case c = fold_out-RawRuleCase Faults Faults C (rule_kind v n) of_rule of_case c

  of_cases : (cs : List RawRuleCase) → map case_of cs ≡ rule_cases_measured v n cs
  of_cases [] = refl
  of_cases (c ∷ cs) = ap (λ (x : C). x ∷ map case_of cs) (whole_case c) ∙ ap (λ (xs : List C). (c.label, rule_faults v n c.rule) ∷ xs) (of_cases cs)

  formed : (r : RawRule) (k : RawRuleKind) (f : Layer) → r.kind ≡ k → kind_faults k ≡ rule_kind v n f → rule_faults v n r ≡ rule_kind v n f
  formed r k f e h = whole_rule r ∙ ap kind_faults e ∙ h

  pub skip : (r : RawRule) → r.kind ≡ form.Skip → rule_faults v n r ≡ rule_kind v n RawRuleKind-F.Skip
  skip r e = formed r form.Skip RawRuleKind-F.Skip e (ap kind_faults (sym form.rolls-Skip) ∙ fold-roll-RawRuleKind Faults Faults C (rule_kind v n) of_rule of_case RawRuleKind-F.Skip)

  pub update : (r : RawRule) (x : Name) (ts : List RawTerm) (t : RawTerm) → r.kind ≡ form.Update x ts t → rule_faults v n r ≡ rule_kind v n (RawRuleKind-F.Update x ts t)
  update r x ts t e = formed r (form.Update x ts t) (RawRuleKind-F.Update x ts t) e (ap kind_faults (sym (form.rolls-Update x ts t)) ∙ fold-roll-RawRuleKind Faults Faults C (rule_kind v n) of_rule of_case (RawRuleKind-F.Update x ts t))

  pub par : (r : RawRule) (ps : List RawRule) → r.kind ≡ form.Par ps → rule_faults v n r ≡ rule_kind v n (RawRuleKind-F.Par (rules_measured v n ps))
  par r ps e = formed r (form.Par ps) (RawRuleKind-F.Par (rules_measured v n ps)) e (ap kind_faults (sym (form.rolls-Par ps)) ∙ fold-roll-RawRuleKind Faults Faults C (rule_kind v n) of_rule of_case (RawRuleKind-F.Par ps))

  pub seq : (r : RawRule) (ps : List RawRule) → r.kind ≡ form.Seq ps → rule_faults v n r ≡ rule_kind v n (RawRuleKind-F.Seq (rules_measured v n ps))
  seq r ps e = formed r (form.Seq ps) (RawRuleKind-F.Seq (rules_measured v n ps)) e (ap kind_faults (sym (form.rolls-Seq ps)) ∙ fold-roll-RawRuleKind Faults Faults C (rule_kind v n) of_rule of_case (RawRuleKind-F.Seq ps))

  pub cond : (r : RawRule) (g : RawTerm) (p q : RawRule) → r.kind ≡ form.If g p q → rule_faults v n r ≡ rule_kind v n (RawRuleKind-F.If g (rule_faults v n p) (rule_faults v n q))
  cond r g p q e = formed r (form.If g p q) (RawRuleKind-F.If g (rule_faults v n p) (rule_faults v n q)) e (ap kind_faults (sym (form.rolls-If g p q)) ∙ fold-roll-RawRuleKind Faults Faults C (rule_kind v n) of_rule of_case (RawRuleKind-F.If g p q))

  pub bound : (r : RawRule) (bs : List RawBind) (p : RawRule) → r.kind ≡ form.Let bs p → rule_faults v n r ≡ rule_kind v n (RawRuleKind-F.Let bs (rule_faults v n p))
  bound r bs p e = formed r (form.Let bs p) (RawRuleKind-F.Let bs (rule_faults v n p)) e (ap kind_faults (sym (form.rolls-Let bs p)) ∙ fold-roll-RawRuleKind Faults Faults C (rule_kind v n) of_rule of_case (RawRuleKind-F.Let bs p))

  pub forall : (r : RawRule) (bs : List RawBinder) (g : RawTerm) (p : RawRule) → r.kind ≡ form.Forall bs g p → rule_faults v n r ≡ rule_kind v n (RawRuleKind-F.Forall bs g (rule_faults v n p))
  forall r bs g p e = formed r (form.Forall bs g p) (RawRuleKind-F.Forall bs g (rule_faults v n p)) e (ap kind_faults (sym (form.rolls-Forall bs g p)) ∙ fold-roll-RawRuleKind Faults Faults C (rule_kind v n) of_rule of_case (RawRuleKind-F.Forall bs g p))

  pub choose : (r : RawRule) (bs : List RawBinder) (g : RawTerm) (p q : RawRule) → r.kind ≡ form.Choose bs g p q → rule_faults v n r ≡ rule_kind v n (RawRuleKind-F.Choose bs g (rule_faults v n p) (rule_faults v n q))
  choose r bs g p q e = formed r (form.Choose bs g p q) (RawRuleKind-F.Choose bs g (rule_faults v n p) (rule_faults v n q)) e (ap kind_faults (sym (form.rolls-Choose bs g p q)) ∙ fold-roll-RawRuleKind Faults Faults C (rule_kind v n) of_rule of_case (RawRuleKind-F.Choose bs g p q))

  pub call : (r : RawRule) (x : Name) (ts : List RawTerm) → r.kind ≡ form.Call x ts → rule_faults v n r ≡ rule_kind v n (RawRuleKind-F.Call x ts)
  call r x ts e = formed r (form.Call x ts) (RawRuleKind-F.Call x ts) e (ap kind_faults (sym (form.rolls-Call x ts)) ∙ fold-roll-RawRuleKind Faults Faults C (rule_kind v n) of_rule of_case (RawRuleKind-F.Call x ts))

  pub switch : (r : RawRule) (t : RawTerm) (cs : List RawRuleCase) (q : RawRule) → r.kind ≡ form.Switch t cs q → rule_faults v n r ≡ rule_kind v n (RawRuleKind-F.Switch t (rule_cases_measured v n cs) (rule_faults v n q))
  switch r t cs q e =
      formed r (form.Switch t cs q) (RawRuleKind-F.Switch t (map case_of cs) (rule_faults v n q)) e (ap kind_faults (sym (form.rolls-Switch t cs q)) ∙ fold-roll-RawRuleKind Faults Faults C (rule_kind v n) of_rule of_case (RawRuleKind-F.Switch t cs q))
      ∙ ap (λ (zs : List C). rule_kind v n (RawRuleKind-F.Switch t zs (rule_faults v n q))) (of_cases cs)
