-- The document of a rule, by its variants.
use Rattle.std.proofs.Common.{◌≡◌, ℕ, List, ap, sym, ◌∙◌}
use Rattle.std.specs.Prelude.{map}
use Rattle.asm_tree.specs.declared.term.RawBinder.{RawBinder}
use Rattle.asm_tree.specs.declared.term.RawTerm.{RawTerm}
use Rattle.asm_tree.specs.declared.term.RawBind.{RawBind}
use Rattle.asm_tree.specs.declared.rule.RawRule.{RawRule, fold_out-RawRule}
use Rattle.asm_tree.specs.declared.rule.RawRuleKind.{fold-roll-RawRuleKind}
use Rattle.asm_tree.specs.declared.rule.RawRuleKind.TheVariants as rule_kind
use Rattle.asm_tree.specs.declared.rule.RawRuleKind.TheOpen.{RawRuleKind-F}
use Rattle.asm_tree.specs.declared.rule.RawRuleCase.{RawRuleCase, fold_out-RawRuleCase}
use Rattle.asm_canonical.specs.Document.{Doc}
use Rattle.asm_canonical.specs.Rules.{rule_doc, kind_doc, case_doc, kind_step, rule_step, case_step}

pub doc_rule : (r : RawRule) → rule_doc r ≡ kind_doc r.kind
doc_rule r = fold_out-RawRule Doc Doc Doc kind_step rule_step case_step r

pub doc_rule_case : (c : RawRuleCase) → case_doc c ≡ case_step (record { label = c.label; rule = rule_doc c.rule })
doc_rule_case c = fold_out-RawRuleCase Doc Doc Doc kind_step rule_step case_step c

pub doc_skip : kind_doc rule_kind.Skip ≡ kind_step RawRuleKind-F.Skip
doc_skip = ap kind_doc (sym rule_kind.rolls-Skip) ∙ fold-roll-RawRuleKind Doc Doc Doc kind_step rule_step case_step RawRuleKind-F.Skip

pub doc_update : (f : List ℕ) (xs : List RawTerm) (y : RawTerm) → kind_doc (rule_kind.Update f xs y) ≡ kind_step (RawRuleKind-F.Update f xs y)
doc_update f xs y = ap kind_doc (sym (rule_kind.rolls-Update f xs y)) ∙ fold-roll-RawRuleKind Doc Doc Doc kind_step rule_step case_step (RawRuleKind-F.Update f xs y)

pub doc_par : (rs : List RawRule) → kind_doc (rule_kind.Par rs) ≡ kind_step (RawRuleKind-F.Par (map rule_doc rs))
doc_par rs = ap kind_doc (sym (rule_kind.rolls-Par rs)) ∙ fold-roll-RawRuleKind Doc Doc Doc kind_step rule_step case_step (RawRuleKind-F.Par rs)

pub doc_seq : (rs : List RawRule) → kind_doc (rule_kind.Seq rs) ≡ kind_step (RawRuleKind-F.Seq (map rule_doc rs))
doc_seq rs = ap kind_doc (sym (rule_kind.rolls-Seq rs)) ∙ fold-roll-RawRuleKind Doc Doc Doc kind_step rule_step case_step (RawRuleKind-F.Seq rs)

pub doc_if : (g : RawTerm) (p q : RawRule) → kind_doc (rule_kind.If g p q) ≡ kind_step (RawRuleKind-F.If g (rule_doc p) (rule_doc q))
doc_if g p q = ap kind_doc (sym (rule_kind.rolls-If g p q)) ∙ fold-roll-RawRuleKind Doc Doc Doc kind_step rule_step case_step (RawRuleKind-F.If g p q)

pub doc_switch : (x : RawTerm) (cs : List RawRuleCase) (q : RawRule) → kind_doc (rule_kind.Switch x cs q) ≡ kind_step (RawRuleKind-F.Switch x (map case_doc cs) (rule_doc q))
doc_switch x cs q = ap kind_doc (sym (rule_kind.rolls-Switch x cs q)) ∙ fold-roll-RawRuleKind Doc Doc Doc kind_step rule_step case_step (RawRuleKind-F.Switch x cs q)

pub doc_let : (bs : List RawBind) (p : RawRule) → kind_doc (rule_kind.Let bs p) ≡ kind_step (RawRuleKind-F.Let bs (rule_doc p))
doc_let bs p = ap kind_doc (sym (rule_kind.rolls-Let bs p)) ∙ fold-roll-RawRuleKind Doc Doc Doc kind_step rule_step case_step (RawRuleKind-F.Let bs p)

pub doc_forall : (bs : List RawBinder) (g : RawTerm) (p : RawRule) → kind_doc (rule_kind.Forall bs g p) ≡ kind_step (RawRuleKind-F.Forall bs g (rule_doc p))
doc_forall bs g p = ap kind_doc (sym (rule_kind.rolls-Forall bs g p)) ∙ fold-roll-RawRuleKind Doc Doc Doc kind_step rule_step case_step (RawRuleKind-F.Forall bs g p)

pub doc_choose : (bs : List RawBinder) (g : RawTerm) (p q : RawRule) → kind_doc (rule_kind.Choose bs g p q) ≡ kind_step (RawRuleKind-F.Choose bs g (rule_doc p) (rule_doc q))
doc_choose bs g p q = ap kind_doc (sym (rule_kind.rolls-Choose bs g p q)) ∙ fold-roll-RawRuleKind Doc Doc Doc kind_step rule_step case_step (RawRuleKind-F.Choose bs g p q)

pub doc_call : (r : List ℕ) (xs : List RawTerm) → kind_doc (rule_kind.Call r xs) ≡ kind_step (RawRuleKind-F.Call r xs)
doc_call r xs = ap kind_doc (sym (rule_kind.rolls-Call r xs)) ∙ fold-roll-RawRuleKind Doc Doc Doc kind_step rule_step case_step (RawRuleKind-F.Call r xs)
