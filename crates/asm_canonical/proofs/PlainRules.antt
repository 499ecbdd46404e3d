-- A rule without places, by its variants.
use Rattle.std.proofs.Common.{◌≡◌, ℕ, List, ap, sym, ◌∙◌}
use Rattle.std.specs.Prelude.{map}
use Rattle.asm_tree.specs.declared.term.RawBinder.{RawBinder}
use Rattle.asm_tree.specs.declared.term.RawTerm.{RawTerm}
use Rattle.asm_tree.specs.declared.term.RawBind.{RawBind}
use Rattle.asm_tree.specs.declared.rule.RawRule.{RawRule, fold_out-RawRule}
use Rattle.asm_tree.specs.declared.rule.RawRuleKind.{RawRuleKind, fold-roll-RawRuleKind}
use Rattle.asm_tree.specs.declared.rule.RawRuleKind.TheVariants as rule_kind
use Rattle.asm_tree.specs.declared.rule.RawRuleKind.TheOpen.{RawRuleKind-F}
use Rattle.asm_tree.specs.declared.rule.RawRuleCase.{RawRuleCase, fold_out-RawRuleCase}
use Rattle.asm_canonical.specs.Placeless.{plain_term, plain_rule, plain_rule_kind, plain_rule_case, rule_kind_step, rule_step, rule_case_step}

pub plain_of_rule : (r : RawRule) → plain_rule r ≡ record { at = 0; kind = plain_rule_kind r.kind }
plain_of_rule r = fold_out-RawRule RawRuleKind RawRule RawRuleCase rule_kind_step rule_step rule_case_step r

pub plain_of_rule_case : (c : RawRuleCase) → plain_rule_case c ≡ record { label = plain_term c.label; rule = plain_rule c.rule }
plain_of_rule_case c = fold_out-RawRuleCase RawRuleKind RawRule RawRuleCase rule_kind_step rule_step rule_case_step c

pub plain_skip : plain_rule_kind rule_kind.Skip ≡ rule_kind_step RawRuleKind-F.Skip
plain_skip = ap plain_rule_kind (sym rule_kind.rolls-Skip) ∙ fold-roll-RawRuleKind RawRuleKind RawRule RawRuleCase rule_kind_step rule_step rule_case_step RawRuleKind-F.Skip

pub plain_update : (f : List ℕ) (xs : List RawTerm) (y : RawTerm) → plain_rule_kind (rule_kind.Update f xs y) ≡ rule_kind_step (RawRuleKind-F.Update f xs y)
plain_update f xs y = ap plain_rule_kind (sym (rule_kind.rolls-Update f xs y)) ∙ fold-roll-RawRuleKind RawRuleKind RawRule RawRuleCase rule_kind_step rule_step rule_case_step (RawRuleKind-F.Update f xs y)

pub plain_par : (rs : List RawRule) → plain_rule_kind (rule_kind.Par rs) ≡ rule_kind_step (RawRuleKind-F.Par (map plain_rule rs))
plain_par rs = ap plain_rule_kind (sym (rule_kind.rolls-Par rs)) ∙ fold-roll-RawRuleKind RawRuleKind RawRule RawRuleCase rule_kind_step rule_step rule_case_step (RawRuleKind-F.Par rs)

pub plain_seq : (rs : List RawRule) → plain_rule_kind (rule_kind.Seq rs) ≡ rule_kind_step (RawRuleKind-F.Seq (map plain_rule rs))
plain_seq rs = ap plain_rule_kind (sym (rule_kind.rolls-Seq rs)) ∙ fold-roll-RawRuleKind RawRuleKind RawRule RawRuleCase rule_kind_step rule_step rule_case_step (RawRuleKind-F.Seq rs)

pub plain_if : (g : RawTerm) (p q : RawRule) → plain_rule_kind (rule_kind.If g p q) ≡ rule_kind_step (RawRuleKind-F.If g (plain_rule p) (plain_rule q))
plain_if g p q = ap plain_rule_kind (sym (rule_kind.rolls-If g p q)) ∙ fold-roll-RawRuleKind RawRuleKind RawRule RawRuleCase rule_kind_step rule_step rule_case_step (RawRuleKind-F.If g p q)

pub plain_switch : (x : RawTerm) (cs : List RawRuleCase) (q : RawRule) → plain_rule_kind (rule_kind.Switch x cs q) ≡ rule_kind_step (RawRuleKind-F.Switch x (map plain_rule_case cs) (plain_rule q))
plain_switch x cs q = ap plain_rule_kind (sym (rule_kind.rolls-Switch x cs q)) ∙ fold-roll-RawRuleKind RawRuleKind RawRule RawRuleCase rule_kind_step rule_step rule_case_step (RawRuleKind-F.Switch x cs q)

pub plain_let : (bs : List RawBind) (p : RawRule) → plain_rule_kind (rule_kind.Let bs p) ≡ rule_kind_step (RawRuleKind-F.Let bs (plain_rule p))
plain_let bs p = ap plain_rule_kind (sym (rule_kind.rolls-Let bs p)) ∙ fold-roll-RawRuleKind RawRuleKind RawRule RawRuleCase rule_kind_step rule_step rule_case_step (RawRuleKind-F.Let bs p)

pub plain_forall : (bs : List RawBinder) (g : RawTerm) (p : RawRule) → plain_rule_kind (rule_kind.Forall bs g p) ≡ rule_kind_step (RawRuleKind-F.Forall bs g (plain_rule p))
plain_forall bs g p = ap plain_rule_kind (sym (rule_kind.rolls-Forall bs g p)) ∙ fold-roll-RawRuleKind RawRuleKind RawRule RawRuleCase rule_kind_step rule_step rule_case_step (RawRuleKind-F.Forall bs g p)

pub plain_choose : (bs : List RawBinder) (g : RawTerm) (p q : RawRule) → plain_rule_kind (rule_kind.Choose bs g p q) ≡ rule_kind_step (RawRuleKind-F.Choose bs g (plain_rule p) (plain_rule q))
plain_choose bs g p q = ap plain_rule_kind (sym (rule_kind.rolls-Choose bs g p q)) ∙ fold-roll-RawRuleKind RawRuleKind RawRule RawRuleCase rule_kind_step rule_step rule_case_step (RawRuleKind-F.Choose bs g p q)

pub plain_call : (r : List ℕ) (xs : List RawTerm) → plain_rule_kind (rule_kind.Call r xs) ≡ rule_kind_step (RawRuleKind-F.Call r xs)
plain_call r xs = ap plain_rule_kind (sym (rule_kind.rolls-Call r xs)) ∙ fold-roll-RawRuleKind RawRuleKind RawRule RawRuleCase rule_kind_step rule_step rule_case_step (RawRuleKind-F.Call r xs)
