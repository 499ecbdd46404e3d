use Rattle.std.proofs.Common.{◌≡◌, ℕ, ◌+◌, List, drop, take, length, Option, Some, refl, sym, ap, subst, ◌∙◌}
use Rattle.std.specs.Prelude.{OnOk}
use Rattle.std.specs.List.{flat_map}
use Rattle.asm_sign.specs.Vocabulary.{Vocabulary}
use Rattle.asm_node.specs.declared.term_type.TermType.{TermType}
use Rattle.asm_node.specs.declared.term_type.TermType.TheVariants.{Boolean}
use Rattle.asm_tree.specs.declared.term.RawName.{RawName}
use Rattle.asm_tree.specs.declared.term.RawBinder.{RawBinder}
use Rattle.asm_tree.specs.declared.term.RawTerm.{RawTerm}
use Rattle.asm_tree.specs.declared.rule.RawRule.{RawRule}
use Rattle.asm_tree.specs.declared.rule.RawRuleCase.{RawRuleCase}
use Rattle.asm_faults.specs.declared.fault.Fault.{Fault}
use Rattle.asm_faults.specs.First.{noted}
use Rattle.asm_faults.specs.Terms as terms
use Rattle.asm_faults.specs.Terms.{Scope, Judged, judged, function_named, within, within_let, let_faults, binder_faults, infinite_faults}
use Rattle.asm_faults.specs.Bodies.{RuleHead, rule_faults}
use Rattle.asm_faults.proofs.Noting.{noted_append}
use Rattle.asm_typing.specs.Pieces.{binds_judged}
use Rattle.asm_typing.specs.RulePieces.{cases_faults}
use Rattle.asm_typing.proofs.RuleForms as forms
use Rattle.asm_typing.proofs.RuleSteps.{no_heads, cases_next, ranging_noted, choose_noted}
use Rattle.asm_typing.proofs.Steps.{each_next, noted_two, within_left, let_left}
use Rattle.asm_typing.proofs.rule.+rule.Goals as goal

pub rule-returns-in-Skip : goal.rule-returns-in-Skip
rule-returns-in-Skip t0 c =
    let v : Vocabulary = c.args.known.now in
    let heads : List RuleHead = c.args.heads.now in
    let n : ℕ = c.args.unit in
    let s : Scope = c.args.scope.now in
    let r : RawRule = c.args.rule.now in
    record {
      scope = refl;
      faults = ap (noted c.args.first.now) (sym (forms.skip v heads n r s c.in-Skip.is));
    }

pub rule-returns-in-Update : goal.rule-returns-in-Update
rule-returns-in-Update t0 c =
    let v : Vocabulary = c.args.known.now in
    let heads : List RuleHead = c.args.heads.now in
    let n : ℕ = c.args.unit in
    let s : Scope = c.args.scope.now in
    let r : RawRule = c.args.rule.now in
    record {
      scope = c.update.ensures.scope;
      faults = subst (λ (xs : List Fault). OnOk c.update.result (c.update.new.first ≡ noted c.args.first.now xs)) (sym (forms.update v heads n r s c.in-Update.name c.slice.result.now c.in-Update.value (cc) ∙ no_heads v heads n r.at c.in-Update.name s c.slice.result.now c.in-Update.value (function_named v c.in-Update.name))) c.update.ensures.faults;
    }

pub rule-returns-in-Par : goal.rule-returns-in-Par
rule-returns-in-Par t0 c =
    let v : Vocabulary = c.args.known.now in
    let heads : List RuleHead = c.args.heads.now in
    let n : ℕ = c.args.unit in
    let s : Scope = c.args.scope.now in
    let r : RawRule = c.args.rule.now in
    record {
      scope = c.rules.ensures.scope;
      faults = subst (λ (xs : List Fault). OnOk c.rules.result (c.rules.new.first ≡ noted c.args.first.now xs)) (sym (forms.par v heads n r s c.slice-in-Par.result.now (cc))) c.rules.ensures.faults;
    }

pub rule-returns-in-Seq : goal.rule-returns-in-Seq
rule-returns-in-Seq t0 c =
    let v : Vocabulary = c.args.known.now in
    let heads : List RuleHead = c.args.heads.now in
    let n : ℕ = c.args.unit in
    let s : Scope = c.args.scope.now in
    let r : RawRule = c.args.rule.now in
    record {
      scope = c.rules-in-Seq.ensures.scope;
      faults = subst (λ (xs : List Fault). OnOk c.rules-in-Seq.result (c.rules-in-Seq.new.first ≡ noted c.args.first.now xs)) (sym (forms.seq v heads n r s c.slice-in-Seq.result.now (cc))) c.rules-in-Seq.ensures.faults;
    }

pub rule-returns-in-Let : goal.rule-returns-in-Let
rule-returns-in-Let t0 c =
    let v : Vocabulary = c.args.known.now in
    let heads : List RuleHead = c.args.heads.now in
    let n : ℕ = c.args.unit in
    let s : Scope = c.args.scope.now in
    let r : RawRule = c.args.rule.now in
    record {
      scope = c.bound.ensures.scope;
      faults = subst (λ (xs : List Fault). OnOk c.bound.result (c.bound.new.first ≡ noted c.args.first.now xs)) (sym (forms.bound v heads n r s c.slice-in-Let.result.now c.get-in-Let.result.now (cc))) c.bound.ensures.faults;
    }

pub rule-returns-in-Forall : goal.rule-returns-in-Forall
rule-returns-in-Forall t0 c =
    let v : Vocabulary = c.args.known.now in
    let heads : List RuleHead = c.args.heads.now in
    let n : ℕ = c.args.unit in
    let s : Scope = c.args.scope.now in
    let r : RawRule = c.args.rule.now in
    record {
      scope = c.ranging.ensures.scope;
      faults = subst (λ (xs : List Fault). OnOk c.ranging.result (c.ranging.new.first ≡ noted c.args.first.now xs)) (sym (forms.forall_ v heads n r s c.slice-in-Forall.result.now c.in-Forall.guard c.get-in-Forall.result.now (cc))) c.ranging.ensures.faults;
    }

pub rule-returns-in-Call : goal.rule-returns-in-Call
rule-returns-in-Call t0 c =
    let v : Vocabulary = c.args.known.now in
    let heads : List RuleHead = c.args.heads.now in
    let n : ℕ = c.args.unit in
    let s : Scope = c.args.scope.now in
    let r : RawRule = c.args.rule.now in
    record {
      scope = c.call.ensures.scope;
      faults = subst (λ (xs : List Fault). OnOk c.call.result (c.call.new.first ≡ noted c.args.first.now xs)) (sym (forms.call v heads n r s c.in-Call.name c.slice-in-Call.result.now (cc))) c.call.ensures.faults;
    }

pub rules-items-preserved : goal.rules-items-preserved
rules-items-preserved t0 c =
    let v : Vocabulary = c.args.known.now in
    let heads : List RuleHead = c.args.heads.now in
    let n : ℕ = c.args.unit in
    let s : Scope = c.args.scope.now in
    let x : RawRule = c.item-item.result in
    let rs : List RawRule = c.args.items.now in
    let i : ℕ = c.items.item-index in
    let first : Option Fault = c.items.first in
    let f : RawRule → List Fault = λ r. rule_faults v heads n r s in
    record {
      scope_stays = c.in_ok-rule.ensures.scope ∙ c.items.invariant.scope_stays;
      rest =
          ap (λ (g : Option Fault). noted g (flat_map f (drop (i + 1) rs)))
          (c.in_ok-rule.ensures.faults ∙ ap (λ (inner : Scope). noted first (rule_faults v heads n x inner)) c.items.invariant.scope_stays)
          ∙ each_next f rs i x first c.items-test.true c.item-item.is
          ∙ c.items.invariant.rest;
    }

pub cases-items-preserved : goal.cases-items-preserved
cases-items-preserved t0 c =
    let v : Vocabulary = c.args.known.now in
    let heads : List RuleHead = c.args.heads.now in
    let n : ℕ = c.args.unit in
    let s : Scope = c.args.scope.now in
    let x : RawRuleCase = c.item-item.result in
    let cs : List RawRuleCase = c.args.items.now in
    let i : ℕ = c.items.item-index in
    let first : Option Fault = c.items.first in
    let rest : List RawRuleCase = drop (i + 1) cs in
    let before : c.items.scope ≡ s = c.items.invariant.scope_stays in
    let between : c.asked.new.scope ≡ s = c.in_ok-one.ensures.scope ∙ before in
    let want : c.or_else-want.result ≡ terms.or_else c.items.want ((judged v n x.label).type s) =
    c.or_else-want.ensures ∙ ap (terms.or_else c.items.want) (c.in_ok-one.ensures.kind ∙ ap (judged v n x.label).type before) in
    let noted_here : c.rule.new.first ≡ noted (noted first (terms.asked v n c.items.want s (judged v n x.label))) (rule_faults v heads n x.rule s) =
    c.in_ok-rule.ensures.faults
    ∙ ap (λ (inner : Scope). noted c.asked.new.first (rule_faults v heads n x.rule inner)) between
    ∙ ap (λ (f : Option Fault). noted f (rule_faults v heads n x.rule s))
    (c.in_ok-one.ensures.faults ∙ ap (λ (inner : Scope). noted first (terms.asked v n c.items.want inner (judged v n x.label))) before) in
    record {
      scope_stays = c.in_ok-rule.ensures.scope ∙ between;
      rest =
          ap (λ (f : Option Fault). noted f (cases_faults v heads n c.or_else-want.result s rest)) noted_here
          ∙ ap (λ (kind : Option TermType). noted (noted (noted first (terms.asked v n c.items.want s (judged v n x.label))) (rule_faults v heads n x.rule s)) (cases_faults v heads n kind s rest)) want
          ∙ cases_next v heads n c.items.want s cs i x first c.items-test.true c.item-item.is
          ∙ c.items.invariant.rest;
    }

pub bound-returns : goal.bound-returns
bound-returns t0 c =
    let v : Vocabulary = c.args.known.now in
    let heads : List RuleHead = c.args.heads.now in
    let n : ℕ = c.args.unit in
    let s : Scope = c.args.scope.now in
    let first : Option Fault = c.args.first.now in
    let p : RawRule = c.args.body.now in
    let js : List (RawName × Judged) = binds_judged v n c.args.items.now in
    let inside : c.binds.new.scope ≡ within_let v n js s = c.in_ok-binds.ensures.scope in
    record {
      scope =
          c.leave.ensures
          ∙ ap (λ (k : ℕ). take k c.rule.new.scope) c.len-depth.ensures
          ∙ ap (take (length s)) (c.in_ok-rule.ensures.scope ∙ inside)
          ∙ let_left v n js s;
      faults =
          c.in_ok-rule.ensures.faults
          ∙ ap (λ (inner : Scope). noted c.binds.new.first (rule_faults v heads n p inner)) inside
          ∙ ap (λ (f : Option Fault). noted f (rule_faults v heads n p (within_let v n js s))) c.in_ok-binds.ensures.faults
          ∙ sym (noted_append first (let_faults v n js s) (rule_faults v heads n p (within_let v n js s)));
    }

pub ranging-returns : goal.ranging-returns
ranging-returns t0 c =
    let v : Vocabulary = c.args.known.now in
    let heads : List RuleHead = c.args.heads.now in
    let n : ℕ = c.args.unit in
    let s : Scope = c.args.scope.now in
    let first : Option Fault = c.args.first.now in
    let p : RawRule = c.args.body.now in
    let g : RawTerm = c.args.guard.now in
    let bs : List RawBinder = c.args.items.now in
    let one : c.ranged.new.scope ≡ within v n bs s = c.in_ok-ranged.ensures.scope in
    let two : c.asked.new.scope ≡ within v n bs s = c.in_ok-asked.ensures.scope ∙ one in
    record {
      scope =
          c.leave.ensures
          ∙ ap (λ (k : ℕ). take k c.rule.new.scope) c.len-depth.ensures
          ∙ ap (take (length s)) (c.in_ok-rule.ensures.scope ∙ two)
          ∙ within_left v n bs s;
      faults =
          c.in_ok-rule.ensures.faults
          ∙ ap (λ (inner : Scope). noted c.asked.new.first (rule_faults v heads n p inner)) two
          ∙ ap (λ (f : Option Fault). noted f (rule_faults v heads n p (within v n bs s)))
          (c.in_ok-asked.ensures.faults
          ∙ ap (λ (inner : Scope). noted c.ranged.new.first (terms.asked v n (Some Boolean) inner (judged v n g))) one
          ∙ ap (λ (f : Option Fault). noted f (terms.asked v n (Some Boolean) (within v n bs s) (judged v n g))) c.in_ok-ranged.ensures.faults)
          ∙ sym (ranging_noted v heads n first bs g p s);
    }

pub guarded-returns : goal.guarded-returns
guarded-returns t0 c =
    let v : Vocabulary = c.args.known.now in
    let heads : List RuleHead = c.args.heads.now in
    let n : ℕ = c.args.unit in
    let s : Scope = c.args.scope.now in
    let first : Option Fault = c.args.first.now in
    let g : List Fault = terms.asked v n (Some Boolean) s (judged v n c.args.guard.now) in
    let p : RawRule = c.args.body.now in
    let one : c.asked.new.scope ≡ s = c.in_ok-asked.ensures.scope in
    record {
      scope = c.in_ok-rule.ensures.scope ∙ one;
      faults =
          c.in_ok-rule.ensures.faults
          ∙ ap (λ (inner : Scope). noted c.asked.new.first (rule_faults v heads n p inner)) one
          ∙ ap (λ (f : Option Fault). noted f (rule_faults v heads n p s)) c.in_ok-asked.ensures.faults
          ∙ sym (noted_append first g (rule_faults v heads n p s));
    }

pub switched-returns : goal.switched-returns
switched-returns t0 c =
    let v : Vocabulary = c.args.known.now in
    let heads : List RuleHead = c.args.heads.now in
    let n : ℕ = c.args.unit in
    let s : Scope = c.args.scope.now in
    let first : Option Fault = c.args.first.now in
    let x : RawTerm = c.args.subject.now in
    let cs : List RawRuleCase = c.args.items.now in
    let one : c.term.new.scope ≡ s = c.in_ok-label.ensures.scope in
    record {
      scope = c.in_ok-cases.ensures.scope ∙ one;
      faults =
          c.in_ok-cases.ensures.faults
          ∙ ap (λ (inner : Scope). noted c.term.new.first (cases_faults v heads n c.in_ok-label.label inner cs)) one
          ∙ ap (λ (kind : Option TermType). noted c.term.new.first (cases_faults v heads n kind s cs)) c.in_ok-label.ensures.kind
          ∙ ap (λ (f : Option Fault). noted f (cases_faults v heads n ((judged v n x).type s) s cs)) c.in_ok-label.ensures.faults
          ∙ sym (noted_append first ((judged v n x).faults s) (cases_faults v heads n ((judged v n x).type s) s cs));
    }

pub rule-returns-in_ok-rule-in-If : goal.rule-returns-in_ok-rule-in-If
rule-returns-in_ok-rule-in-If t0 c =
    let v : Vocabulary = c.args.known.now in
    let heads : List RuleHead = c.args.heads.now in
    let n : ℕ = c.args.unit in
    let s : Scope = c.args.scope.now in
    let first : Option Fault = c.args.first.now in
    let r : RawRule = c.args.rule.now in
    let g : List Fault = terms.asked v n (Some Boolean) s (judged v n c.in-If.guard) in
    let p : RawRule = c.get.result.now in
    let q : RawRule = c.get-in-If.result.now in
    let one : c.guarded.new.scope ≡ s = c.in_ok-guarded-in-If.ensures.scope in
    record {
      scope = c.in_ok-rule-in-If.ensures.scope ∙ one;
      faults =
          c.in_ok-rule-in-If.ensures.faults
          ∙ ap (λ (inner : Scope). noted c.guarded.new.first (rule_faults v heads n q inner)) one
          ∙ ap (λ (f : Option Fault). noted f (rule_faults v heads n q s)) c.in_ok-guarded-in-If.ensures.faults
          ∙ sym (noted_two first g (rule_faults v heads n p s) (rule_faults v heads n q s))
          ∙ ap (noted first) (sym (forms.cond v heads n r s c.in-If.guard p q (cc)));
    }

pub rule-returns-in_ok-rule-in-Switch : goal.rule-returns-in_ok-rule-in-Switch
rule-returns-in_ok-rule-in-Switch t0 c =
    let v : Vocabulary = c.args.known.now in
    let heads : List RuleHead = c.args.heads.now in
    let n : ℕ = c.args.unit in
    let s : Scope = c.args.scope.now in
    let first : Option Fault = c.args.first.now in
    let r : RawRule = c.args.rule.now in
    let x : RawTerm = c.in-Switch.subject in
    let cs : List RawRuleCase = c.slice-in-Switch.result.now in
    let q : RawRule = c.get-in-Switch.result.now in
    let one : c.switched.new.scope ≡ s = c.in_ok-switched-in-Switch.ensures.scope in
    record {
      scope = c.in_ok-rule-in-Switch.ensures.scope ∙ one;
      faults =
          c.in_ok-rule-in-Switch.ensures.faults
          ∙ ap (λ (inner : Scope). noted c.switched.new.first (rule_faults v heads n q inner)) one
          ∙ ap (λ (f : Option Fault). noted f (rule_faults v heads n q s)) c.in_ok-switched-in-Switch.ensures.faults
          ∙ sym (noted_two first ((judged v n x).faults s) (cases_faults v heads n ((judged v n x).type s) s cs) (rule_faults v heads n q s))
          ∙ ap (noted first) (sym (forms.switch v heads n r s x cs q (cc)));
    }

pub rule-returns-in_ok-rule-in-Choose : goal.rule-returns-in_ok-rule-in-Choose
rule-returns-in_ok-rule-in-Choose t0 c =
    let v : Vocabulary = c.args.known.now in
    let heads : List RuleHead = c.args.heads.now in
    let n : ℕ = c.args.unit in
    let s : Scope = c.args.scope.now in
    let first : Option Fault = c.args.first.now in
    let r : RawRule = c.args.rule.now in
    let g : RawTerm = c.in-Choose.guard in
    let bs : List RawBinder = c.slice-in-Choose.result.now in
    let p : RawRule = c.get-in-Choose.result.now in
    let q : RawRule = c.get-in-Choose-2.result.now in
    let one : c.ranging-in-Choose.new.scope ≡ s = c.in_ok-ranging-in-Choose.ensures.scope in
    record {
      scope = c.in_ok-rule-in-Choose.ensures.scope ∙ one;
      faults =
          c.in_ok-rule-in-Choose.ensures.faults
          ∙ ap (λ (inner : Scope). noted c.ranging-in-Choose.new.first (rule_faults v heads n q inner)) one
          ∙ ap (λ (f : Option Fault). noted f (rule_faults v heads n q s)) c.in_ok-ranging-in-Choose.ensures.faults
          ∙ sym (choose_noted v heads n first bs g p q s)
          ∙ ap (noted first) (sym (forms.choose v heads n r s bs g p q (cc)));
    }
