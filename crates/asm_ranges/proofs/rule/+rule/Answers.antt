use Rattle.std.proofs.Common.{◌≡◌, ℕ, ◌+◌, List, drop, take, Option, refl, sym, ap, subst, ◌∙◌}
use Rattle.std.specs.Prelude.{OnOk}
use Rattle.asm_sign.specs.Vocabulary.{Vocabulary}
use Rattle.asm_tree.specs.declared.rule.RawRule.{RawRule}
use Rattle.asm_tree.specs.declared.rule.RawRuleKind.TheOpen.{RawRuleKind-F}
use Rattle.asm_faults.specs.declared.fault.Fault.{Fault}
use Rattle.asm_faults.specs.First.{noted}
use Rattle.asm_faults.specs.Ranges.{Scope, rule_kind, rule_faults, term_faults, bound, within, within_let, bind_faults}
use Rattle.asm_faults.proofs.Noting.{noted_append}
use Rattle.asm_ranges.specs.Pieces.{Faults, rules_measured, rule_cases_measured, all_refused, cases_refused}
use Rattle.asm_ranges.proofs.RuleForms as forms
use Rattle.asm_ranges.proofs.Ends.{on_ok}
use Rattle.asm_ranges.proofs.Steps.{noted_three, let_left, within_left}
use Rattle.asm_ranges.proofs.RuleSteps.{rules_next, rule_cases_next}
use Rattle.asm_ranges.proofs.rule.+rule.Goals as goal

pub rule-returns-in-Skip : goal.rule-returns-in-Skip
rule-returns-in-Skip t0 c =
    let v : Vocabulary = c.args.known.now in
    let n : ℕ = c.args.unit in
    let s : Scope = c.args.scope.now in
    let e : rule_faults v n c.args.item.now ≡ rule_kind v n RawRuleKind-F.Skip = forms.skip v n c.args.item.now c.in-Skip.is in
    record { scope = refl; faults = ap (λ (p : Faults). noted c.args.first.now (p s)) (sym e) }

pub rule-returns-in-Update : goal.rule-returns-in-Update
rule-returns-in-Update t0 c =
    let v : Vocabulary = c.args.known.now in
    let n : ℕ = c.args.unit in
    let s : Scope = c.args.scope.now in
    let e : rule_faults v n c.args.item.now ≡ rule_kind v n (RawRuleKind-F.Update c.in-Update.field-0 c.slice.result.now c.in-Update.value) = forms.update v n c.args.item.now c.in-Update.field-0 c.slice.result.now c.in-Update.value (cc (c.in-Update.is, c.slice.ensures)) in
    record {
      scope = c.update.ensures.scope;
      faults = subst (λ (p : Faults). OnOk c.update.result (c.update.new.first ≡ noted c.args.first.now (p s))) (sym e) c.update.ensures.faults;
    }

pub rule-returns-in-Par : goal.rule-returns-in-Par
rule-returns-in-Par t0 c =
    let v : Vocabulary = c.args.known.now in
    let n : ℕ = c.args.unit in
    let s : Scope = c.args.scope.now in
    let e : rule_faults v n c.args.item.now ≡ rule_kind v n (RawRuleKind-F.Par (rules_measured v n c.slice-in-Par.result.now)) = forms.par v n c.args.item.now c.slice-in-Par.result.now (cc (c.in-Par.is, c.slice-in-Par.ensures)) in
    record {
      scope = c.rules.ensures.scope;
      faults = subst (λ (p : Faults). OnOk c.rules.result (c.rules.new.first ≡ noted c.args.first.now (p s))) (sym e) c.rules.ensures.faults;
    }

pub rule-returns-in-Seq : goal.rule-returns-in-Seq
rule-returns-in-Seq t0 c =
    let v : Vocabulary = c.args.known.now in
    let n : ℕ = c.args.unit in
    let s : Scope = c.args.scope.now in
    let e : rule_faults v n c.args.item.now ≡ rule_kind v n (RawRuleKind-F.Seq (rules_measured v n c.slice-in-Seq.result.now)) = forms.seq v n c.args.item.now c.slice-in-Seq.result.now (cc (c.in-Seq.is, c.slice-in-Seq.ensures)) in
    record {
      scope = c.rules-in-Seq.ensures.scope;
      faults = subst (λ (p : Faults). OnOk c.rules-in-Seq.result (c.rules-in-Seq.new.first ≡ noted c.args.first.now (p s))) (sym e) c.rules-in-Seq.ensures.faults;
    }

pub rule-returns-in-Let : goal.rule-returns-in-Let
rule-returns-in-Let t0 c =
    let v : Vocabulary = c.args.known.now in
    let n : ℕ = c.args.unit in
    let s : Scope = c.args.scope.now in
    let e : rule_faults v n c.args.item.now ≡ rule_kind v n (RawRuleKind-F.Let c.slice-in-Let.result.now (rule_faults v n c.get-in-Let.result.now)) = forms.bound v n c.args.item.now c.slice-in-Let.result.now c.get-in-Let.result.now (cc (c.in-Let.is, c.slice-in-Let.ensures, c.get-in-Let.ensures)) in
    record {
      scope = c.bound.ensures.scope;
      faults = subst (λ (p : Faults). OnOk c.bound.result (c.bound.new.first ≡ noted c.args.first.now (p s))) (sym e) c.bound.ensures.faults;
    }

pub rule-returns-in-Forall : goal.rule-returns-in-Forall
rule-returns-in-Forall t0 c =
    let v : Vocabulary = c.args.known.now in
    let n : ℕ = c.args.unit in
    let s : Scope = c.args.scope.now in
    let e : rule_faults v n c.args.item.now ≡ rule_kind v n (RawRuleKind-F.Forall c.slice-in-Forall.result.now c.in-Forall.guard (rule_faults v n c.get-in-Forall.result.now)) = forms.forall v n c.args.item.now c.slice-in-Forall.result.now c.in-Forall.guard c.get-in-Forall.result.now (cc (c.in-Forall.is, c.slice-in-Forall.ensures, c.get-in-Forall.ensures)) in
    record {
      scope = c.forall.ensures.scope;
      faults = subst (λ (p : Faults). OnOk c.forall.result (c.forall.new.first ≡ noted c.args.first.now (p s))) (sym e) c.forall.ensures.faults;
    }

pub rule-returns-in-Call : goal.rule-returns-in-Call
rule-returns-in-Call t0 c =
    let v : Vocabulary = c.args.known.now in
    let n : ℕ = c.args.unit in
    let s : Scope = c.args.scope.now in
    let e : rule_faults v n c.args.item.now ≡ rule_kind v n (RawRuleKind-F.Call c.in-Call.field-0 c.slice-in-Call.result.now) = forms.call v n c.args.item.now c.in-Call.field-0 c.slice-in-Call.result.now (cc (c.in-Call.is, c.slice-in-Call.ensures)) in
    record {
      scope = c.terms.ensures.scope;
      faults = subst (λ (p : Faults). OnOk c.terms.result (c.terms.new.first ≡ noted c.args.first.now (p s))) (sym e) c.terms.ensures.faults;
    }

pub rules-items-preserved : goal.rules-items-preserved
rules-items-preserved t0 c =
    let v : Vocabulary = c.args.known.now in
    let n : ℕ = c.args.unit in
    let s : Scope = c.args.scope.now in
    let p : Faults = rule_faults v n c.item-item.result in
    let one : c.rule.new.first ≡ noted c.items.first (p s) = c.in_ok-rule.ensures.faults ∙ ap (λ (z : Scope). noted c.items.first (p z)) c.items.invariant.scope in
    record {
      scope = c.in_ok-rule.ensures.scope ∙ c.items.invariant.scope;
      faults = ap (λ (f : Option Fault). noted f (all_refused (rules_measured v n (drop (c.items.item-index + 1) c.args.items.now)) s)) one
          ∙ rules_next v n s c.args.items.now c.items.item-index c.item-item.result c.items.first c.items-test.true c.item-item.is ∙ c.items.invariant.faults;
    }

pub cases-items-preserved : goal.cases-items-preserved
cases-items-preserved t0 c =
    let v : Vocabulary = c.args.known.now in
    let n : ℕ = c.args.unit in
    let s : Scope = c.args.scope.now in
    let b = c.item-item.result in
    let l : Faults = term_faults v n b.label in
    let p : Faults = rule_faults v n b.rule in
    let same = c.items.invariant.scope in
    let one : c.term.new.first ≡ noted c.items.first (l s) = c.in_ok-term.ensures.faults ∙ ap (λ (z : Scope). noted c.items.first (l z)) same in
    let two : c.rule.new.first ≡ noted c.term.new.first (p s) = c.in_ok-rule.ensures.faults ∙ ap (λ (z : Scope). noted c.term.new.first (p z)) (c.in_ok-term.ensures.scope ∙ same) in
    record {
      scope = c.in_ok-rule.ensures.scope ∙ c.in_ok-term.ensures.scope ∙ same;
      faults = ap (λ (f : Option Fault). noted f (cases_refused v n (rule_cases_measured v n (drop (c.items.item-index + 1) c.args.items.now)) s)) (two ∙ ap (λ (f : Option Fault). noted f (p s)) one)
          ∙ rule_cases_next v n s c.args.items.now c.items.item-index b c.items.first c.items-test.true c.item-item.is ∙ c.items.invariant.faults;
    }

pub bound-returns-clause-scope : goal.bound-returns-clause-scope
bound-returns-clause-scope t0 c =
    let v : Vocabulary = c.args.known.now in
    let n : ℕ = c.args.unit in
    let s : Scope = c.args.scope.now in
    let bs = bound v n c.args.items.now in
    c.leave.ensures ∙ ap (take c.len-depth.result) (c.in_ok-rule.ensures.scope ∙ c.in_ok-binds.ensures.scope)
    ∙ ap (λ (d : ℕ). take d (within_let bs s)) c.len-depth.ensures ∙ let_left bs s

pub bound-returns-clause-faults : goal.bound-returns-clause-faults
bound-returns-clause-faults t0 c =
    let v : Vocabulary = c.args.known.now in
    let n : ℕ = c.args.unit in
    let s : Scope = c.args.scope.now in
    let p : Faults = rule_faults v n c.args.body.now in
    let bs = bound v n c.args.items.now in
    c.in_ok-rule.ensures.faults ∙ ap (λ (z : Scope). noted c.binds.new.first (p z)) c.in_ok-binds.ensures.scope
    ∙ ap (λ (f : Option Fault). noted f (p (within_let bs s))) c.in_ok-binds.ensures.faults
    ∙ sym (noted_append c.args.first.now (bind_faults bs s) (p (within_let bs s)))

pub forall-returns-clause-scope : goal.forall-returns-clause-scope
forall-returns-clause-scope t0 c =
    let v : Vocabulary = c.args.known.now in
    let s : Scope = c.args.scope.now in
    let bs = c.args.items.now in
    c.leave.ensures ∙ ap (take c.len-depth.result) (c.in_ok-rule.ensures.scope ∙ c.in_ok-term.ensures.scope ∙ c.in_ok-within.ensures)
    ∙ ap (λ (d : ℕ). take d (within v bs s)) c.len-depth.ensures ∙ within_left v bs s

pub forall-returns-clause-faults : goal.forall-returns-clause-faults
forall-returns-clause-faults t0 c =
    let v : Vocabulary = c.args.known.now in
    let n : ℕ = c.args.unit in
    let s : Scope = c.args.scope.now in
    let g : Faults = term_faults v n c.args.guard.now in
    let p : Faults = rule_faults v n c.args.body.now in
    let z : Scope = within v c.args.items.now s in
    let one : c.term.new.first ≡ noted c.args.first.now (g z) = c.in_ok-term.ensures.faults ∙ ap (λ (y : Scope). noted c.args.first.now (g y)) c.in_ok-within.ensures in
    let two : c.rule.new.first ≡ noted c.term.new.first (p z) = c.in_ok-rule.ensures.faults ∙ ap (λ (y : Scope). noted c.term.new.first (p y)) (c.in_ok-term.ensures.scope ∙ c.in_ok-within.ensures) in
    two ∙ ap (λ (f : Option Fault). noted f (p z)) one ∙ sym (noted_append c.args.first.now (g z) (p z))

-- ---- rules of several parts

pub rule-returns-in_ok-rule-in-If : goal.rule-returns-in_ok-rule-in-If
rule-returns-in_ok-rule-in-If t0 c =
    let v : Vocabulary = c.args.known.now in
    let n : ℕ = c.args.unit in
    let s : Scope = c.args.scope.now in
    let r : RawRule = c.args.item.now in
    let e : rule_faults v n r ≡ rule_kind v n (RawRuleKind-F.If c.in-If.guard (rule_faults v n c.get.result.now) (rule_faults v n c.get-in-If.result.now)) = forms.cond v n r c.in-If.guard c.get.result.now c.get-in-If.result.now (cc (c.in-If.is, c.get.ensures, c.get-in-If.ensures)) in
    let g : Faults = term_faults v n c.in-If.guard in
    let x : Faults = rule_faults v n c.get.result.now in
    let y : Faults = rule_faults v n c.get-in-If.result.now in
    let same : c.term.new.scope ≡ s = c.in_ok-term-in-If.ensures.scope in
    let still : c.rule.new.scope ≡ s = c.in_ok-rule-in-If.ensures.scope ∙ same in
    let two : c.rule.new.first ≡ noted c.term.new.first (x s) = c.in_ok-rule-in-If.ensures.faults ∙ ap (λ (z : Scope). noted c.term.new.first (x z)) same in
    record {
      scope = on_ok c.rule-in-If.result c.rule-in-If.new.scope (still) c.rule-in-If.ensures.scope;
      faults = on_ok c.rule-in-If.result c.rule-in-If.new.first (ap (λ (z : Scope). noted c.rule.new.first (y z)) still
          ∙ ap (λ (f : Option Fault). noted f (y s)) (two ∙ ap (λ (f : Option Fault). noted f (x s)) c.in_ok-term-in-If.ensures.faults)
          ∙ sym (noted_three c.args.first.now (g s) (x s) (y s)) ∙ ap (λ (p : Faults). noted c.args.first.now (p s)) (sym e)) c.rule-in-If.ensures.faults;
    }

pub rule-returns-in_ok-cases-in-Switch : goal.rule-returns-in_ok-cases-in-Switch
rule-returns-in_ok-cases-in-Switch t0 c =
    let v : Vocabulary = c.args.known.now in
    let n : ℕ = c.args.unit in
    let s : Scope = c.args.scope.now in
    let r : RawRule = c.args.item.now in
    let e : rule_faults v n r ≡ rule_kind v n (RawRuleKind-F.Switch c.in-Switch.subject (rule_cases_measured v n c.slice-in-Switch.result.now) (rule_faults v n c.get-in-Switch.result.now)) = forms.switch v n r c.in-Switch.subject c.slice-in-Switch.result.now c.get-in-Switch.result.now (cc (c.in-Switch.is, c.slice-in-Switch.ensures, c.get-in-Switch.ensures)) in
    let g : Faults = term_faults v n c.in-Switch.subject in
    let x : Faults = cases_refused v n (rule_cases_measured v n c.slice-in-Switch.result.now) in
    let y : Faults = rule_faults v n c.get-in-Switch.result.now in
    let same : c.term-in-Switch.new.scope ≡ s = c.in_ok-term-in-Switch.ensures.scope in
    let still : c.cases.new.scope ≡ s = c.in_ok-cases-in-Switch.ensures.scope ∙ same in
    let two : c.cases.new.first ≡ noted c.term-in-Switch.new.first (x s) = c.in_ok-cases-in-Switch.ensures.faults ∙ ap (λ (z : Scope). noted c.term-in-Switch.new.first (x z)) same in
    record {
      scope = on_ok c.rule-in-Switch.result c.rule-in-Switch.new.scope (still) c.rule-in-Switch.ensures.scope;
      faults = on_ok c.rule-in-Switch.result c.rule-in-Switch.new.first (ap (λ (z : Scope). noted c.cases.new.first (y z)) still
          ∙ ap (λ (f : Option Fault). noted f (y s)) (two ∙ ap (λ (f : Option Fault). noted f (x s)) c.in_ok-term-in-Switch.ensures.faults)
          ∙ sym (noted_three c.args.first.now (g s) (x s) (y s)) ∙ ap (λ (p : Faults). noted c.args.first.now (p s)) (sym e)) c.rule-in-Switch.ensures.faults;
    }

pub rule-returns-in_ok-forall-in-Choose : goal.rule-returns-in_ok-forall-in-Choose
rule-returns-in_ok-forall-in-Choose t0 c =
    let v : Vocabulary = c.args.known.now in
    let n : ℕ = c.args.unit in
    let s : Scope = c.args.scope.now in
    let r : RawRule = c.args.item.now in
    let e : rule_faults v n r ≡ rule_kind v n (RawRuleKind-F.Choose c.slice-in-Choose.result.now c.in-Choose.guard (rule_faults v n c.get-in-Choose.result.now) (rule_faults v n c.get-in-Choose-2.result.now)) = forms.choose v n r c.slice-in-Choose.result.now c.in-Choose.guard c.get-in-Choose.result.now c.get-in-Choose-2.result.now (cc (c.in-Choose.is, c.slice-in-Choose.ensures, c.get-in-Choose.ensures, c.get-in-Choose-2.ensures)) in
    let z0 : Scope = within v c.slice-in-Choose.result.now s in
    let g : List Fault = term_faults v n c.in-Choose.guard z0 in
    let x : List Fault = rule_faults v n c.get-in-Choose.result.now z0 in
    let y : Faults = rule_faults v n c.get-in-Choose-2.result.now in
    let same : c.forall-in-Choose.new.scope ≡ s = c.in_ok-forall-in-Choose.ensures.scope in
    record {
      scope = on_ok c.rule-in-Choose.result c.rule-in-Choose.new.scope (same) c.rule-in-Choose.ensures.scope;
      faults = on_ok c.rule-in-Choose.result c.rule-in-Choose.new.first (ap (λ (z : Scope). noted c.forall-in-Choose.new.first (y z)) same
          ∙ ap (λ (f : Option Fault). noted f (y s)) (c.in_ok-forall-in-Choose.ensures.faults ∙ noted_append c.args.first.now g x)
          ∙ sym (noted_three c.args.first.now g x (y s)) ∙ ap (λ (p : Faults). noted c.args.first.now (p s)) (sym e)) c.rule-in-Choose.ensures.faults;
    }
