use Rattle.std.proofs.Common.{◌≡◌, ℕ, ◌+◌, List, [], ◌∷◌, ◌++◌, drop, take, length, Option, Some, None, refl, sym, ap, subst, ◌∙◌, if◌then◌else◌}
use Rattle.std.specs.Prelude.{map, IfOk, OnOk}
use Rattle.asm_sign.specs.Vocabulary.{Vocabulary}
use Rattle.asm_tree.specs.declared.term.RawName.{RawName}
use Rattle.asm_tree.specs.declared.term.RawBind.{RawBind}
use Rattle.asm_tree.specs.declared.term.RawCase.{RawCase}
use Rattle.asm_tree.specs.declared.term.RawTerm.{RawTerm}
use Rattle.asm_tree.specs.declared.term.RawTermKind.TheOpen.{RawTermKind-F}
use Rattle.asm_node.specs.declared.term_type.TermType.{TermType}
use Rattle.asm_faults.specs.declared.fault.Fault.{Fault}
use Rattle.asm_faults.specs.declared.fault.ModelFault.TheVariants.{WrongType}
use Rattle.asm_faults.specs.At.{token}
use Rattle.asm_faults.specs.First.{noted}
use Rattle.asm_faults.specs.Terms as terms
use Rattle.asm_faults.specs.Terms.{Judged, judged, judge_kind, bound_type, Scope}
use Rattle.asm_typing.specs.Pieces.{terms_judged, binds_judged, cases_judged, cases_before, differ}
use Rattle.asm_typing.proofs.Forms as forms
use Rattle.asm_typing.proofs.Steps.{unbound_is, on_ok, asked_noted, asked_next, scope_next, let_next, values_next, cases_next, within_left, alike_noted, alike_type, cond_noted, switch_noted, first_type_last, let_left}
use Rattle.asm_faults.proofs.Noting.{noted_append}
use Rattle.asm_typing.proofs.term.+term.Goals as goal

pub term-returns-in-Number : goal.term-returns-in-Number
term-returns-in-Number t0 c =
    let v : Vocabulary = c.args.known.now in
    let n : ℕ = c.args.unit in
    let s : Scope = c.args.scope.now in
    let t : RawTerm = c.args.term.now in
    let e : judged v n t ≡ judge_kind v n (RawTermKind-F.Number c.in-Number.field-0) t.at t.first = forms.number v n t c.in-Number.field-0 c.in-Number.is in
    record {
      kind = ap (λ (j : Judged). j.type s) (sym e);
      scope = refl;
      faults = ap (λ (j : Judged). noted c.args.first.now (j.faults s)) (sym e);
    }

pub term-returns-in-Truth : goal.term-returns-in-Truth
term-returns-in-Truth t0 c =
    let v : Vocabulary = c.args.known.now in
    let n : ℕ = c.args.unit in
    let s : Scope = c.args.scope.now in
    let t : RawTerm = c.args.term.now in
    let e : judged v n t ≡ judge_kind v n (RawTermKind-F.Truth c.in-Truth.field-0) t.at t.first = forms.truth v n t c.in-Truth.field-0 c.in-Truth.is in
    record {
      kind = ap (λ (j : Judged). j.type s) (sym e);
      scope = refl;
      faults = ap (λ (j : Judged). noted c.args.first.now (j.faults s)) (sym e);
    }

pub term-returns-in-Undef : goal.term-returns-in-Undef
term-returns-in-Undef t0 c =
    let v : Vocabulary = c.args.known.now in
    let n : ℕ = c.args.unit in
    let s : Scope = c.args.scope.now in
    let t : RawTerm = c.args.term.now in
    let e : judged v n t ≡ judge_kind v n (RawTermKind-F.Undef) t.at t.first = forms.undef v n t c.in-Undef.is in
    record {
      kind = ap (λ (j : Judged). j.type s) (sym e);
      scope = refl;
      faults = ap (λ (j : Judged). noted c.args.first.now (j.faults s)) (sym e);
    }

pub term-returns-in-Variable : goal.term-returns-in-Variable
term-returns-in-Variable t0 c =
    let v : Vocabulary = c.args.known.now in
    let n : ℕ = c.args.unit in
    let s : Scope = c.args.scope.now in
    let t : RawTerm = c.args.term.now in
    let e : judged v n t ≡ judge_kind v n (RawTermKind-F.Variable c.in-Variable.name) t.at t.first = forms.variable v n t c.in-Variable.name c.in-Variable.is in
    record {
      kind = subst (λ (j : Judged). IfOk c.variable.result (λ kind. kind ≡ j.type s)) (sym e) c.variable.ensures.kind;
      scope = on_ok c.variable.result (s ≡ s) refl;
      faults = subst (λ (j : Judged). OnOk c.variable.result (c.variable.new.first ≡ noted c.args.first.now (j.faults s))) (sym e)
          (subst (λ (xs : List Fault). OnOk c.variable.result (c.variable.new.first ≡ noted c.args.first.now xs)) (sym (unbound_is v n t.at c.in-Variable.name (bound_type s c.in-Variable.name))) c.variable.ensures.faults);
    }

pub term-returns-in-Element : goal.term-returns-in-Element
term-returns-in-Element t0 c =
    let v : Vocabulary = c.args.known.now in
    let n : ℕ = c.args.unit in
    let s : Scope = c.args.scope.now in
    let t : RawTerm = c.args.term.now in
    let e : judged v n t ≡ judge_kind v n (RawTermKind-F.Element c.in-Element.name) t.at t.first = forms.element v n t c.in-Element.name c.in-Element.is in
    record {
      kind = subst (λ (j : Judged). IfOk c.element.result (λ kind. kind ≡ j.type s)) (sym e) c.element.ensures.kind;
      scope = on_ok c.element.result (s ≡ s) refl;
      faults = subst (λ (j : Judged). OnOk c.element.result (c.element.new.first ≡ noted c.args.first.now (j.faults s))) (sym e) c.element.ensures.faults;
    }

pub term-returns-in-Call : goal.term-returns-in-Call
term-returns-in-Call t0 c =
    let v : Vocabulary = c.args.known.now in
    let n : ℕ = c.args.unit in
    let s : Scope = c.args.scope.now in
    let t : RawTerm = c.args.term.now in
    let e : judged v n t ≡ judge_kind v n (RawTermKind-F.Call c.in-Call.name (terms_judged v n c.slice.result.now)) t.at t.first = forms.call v n t c.in-Call.name c.slice.result.now (cc) in
    record {
      kind = subst (λ (j : Judged). IfOk c.call.result (λ kind. kind ≡ j.type s)) (sym e) c.call.ensures.kind;
      scope = c.call.ensures.scope;
      faults = subst (λ (j : Judged). OnOk c.call.result (c.call.new.first ≡ noted c.args.first.now (j.faults s))) (sym e) c.call.ensures.faults;
    }

pub term-returns-in-Unary : goal.term-returns-in-Unary
term-returns-in-Unary t0 c =
    let v : Vocabulary = c.args.known.now in
    let n : ℕ = c.args.unit in
    let s : Scope = c.args.scope.now in
    let t : RawTerm = c.args.term.now in
    let e : judged v n t ≡ judge_kind v n (RawTermKind-F.Unary c.in-Unary.op (judged v n c.get.result.now)) t.at t.first = forms.unary v n t c.in-Unary.op c.get.result.now (cc) in
    record {
      kind = subst (λ (j : Judged). IfOk c.unary.result (λ kind. kind ≡ j.type s)) (sym e) c.unary.ensures.kind;
      scope = c.unary.ensures.scope;
      faults = subst (λ (j : Judged). OnOk c.unary.result (c.unary.new.first ≡ noted c.args.first.now (j.faults s))) (sym e) c.unary.ensures.faults;
    }

pub term-returns-in-Quant : goal.term-returns-in-Quant
term-returns-in-Quant t0 c =
    let v : Vocabulary = c.args.known.now in
    let n : ℕ = c.args.unit in
    let s : Scope = c.args.scope.now in
    let t : RawTerm = c.args.term.now in
    let e : judged v n t ≡ judge_kind v n (RawTermKind-F.Quant c.in-Quant.field-0 c.slice-in-Quant.result.now (judged v n c.get-in-Quant.result.now)) t.at t.first = forms.quantified v n t c.in-Quant.field-0 c.slice-in-Quant.result.now c.get-in-Quant.result.now (cc) in
    record {
      kind = subst (λ (j : Judged). IfOk c.quantified.result (λ kind. kind ≡ j.type s)) (sym e) c.quantified.ensures.kind;
      scope = c.quantified.ensures.scope;
      faults = subst (λ (j : Judged). OnOk c.quantified.result (c.quantified.new.first ≡ noted c.args.first.now (j.faults s))) (sym e) c.quantified.ensures.faults;
    }

pub unary-returns : goal.unary-returns
unary-returns t0 c =
    let v : Vocabulary = c.args.known.now in
    let n : ℕ = c.args.unit in
    record {
      kind = ap Some (c.unary_gives.ensures v n);
      scope = c.in_ok-asked.ensures.scope;
      faults = c.in_ok-asked.ensures.faults ∙ ap (λ (want : Option TermType). noted c.args.first.now (terms.asked v n want c.args.scope.now (judged v n c.args.operand.now))) (c.unary_asks.ensures v n);
    }

pub asked-returns-clause-faults : goal.asked-returns-clause-faults
asked-returns-clause-faults t0 c =
    let v : Vocabulary = c.args.known.now in
    let n : ℕ = c.args.unit in
    let s : Scope = c.args.scope.now in
    let x : RawTerm = c.args.item.now in
    c.in_ok-mismatch.ensures
    ∙ ap (λ (own : Option TermType). noted c.term.new.first (if differ c.args.want own then token WrongType n x.at x.first ∷ [] else [])) c.in_ok-own.ensures.kind
    ∙ ap (λ (first : Option Fault). noted first (if differ c.args.want ((judged v n x).type s) then token WrongType n x.at x.first ∷ [] else [])) c.in_ok-own.ensures.faults
    ∙ sym (asked_noted v n c.args.first.now c.args.want s x)

pub asked_each-items-preserved : goal.asked_each-items-preserved
asked_each-items-preserved t0 c =
    let v : Vocabulary = c.args.known.now in
    let n : ℕ = c.args.unit in
    let s : Scope = c.args.scope.now in
    let x : RawTerm = c.index-items-index.result in
    let types : List (Option TermType) = c.args.types.now in
    let ts : List RawTerm = c.args.items.now in
    let i : ℕ = c.items.index in
    let first : Option Fault = c.items.first in
    record {
      scope_stays = c.in_ok-asked.ensures.scope ∙ c.items.invariant.scope_stays;
      rest =
          ap (λ (f : Option Fault). noted f (terms.asked_each v n (drop (i + 1) types) s (terms_judged v n (drop (i + 1) ts))))
          (c.in_ok-asked.ensures.faults
          ∙ ap (λ (inner : Scope). noted first (terms.asked v n c.type_at.result inner (judged v n x))) c.items.invariant.scope_stays
          ∙ ap (λ (want : Option TermType). noted first (terms.asked v n want s (judged v n x))) c.type_at.ensures)
          ∙ asked_next v n types s ts i x first c.items-test.true c.index-items-index.is
          ∙ c.items.invariant.rest;
    }

pub bind_each-items-preserved : goal.bind_each-items-preserved
bind_each-items-preserved t0 c =
    let v : Vocabulary = c.args.known.now in
    let n : ℕ = c.args.unit in
    let s : Scope = c.items.scope in
    let x : RawBind = c.item-item.result in
    let bs : List RawBind = c.args.items.now in
    let i : ℕ = c.items.item-index in
    let first : Option Fault = c.items.first in
    let rest : List (RawName × Judged) = binds_judged v n (drop (i + 1) bs) in
    let next : c.bind.new.self ≡ s ++ record { name = x.variable.text; type = (judged v n x.term).type s } ∷ [] =
    c.in_ok-bind.ensures.ok
    ∙ ap (λ (inner : Scope). inner ++ record { name = x.variable.text; type = c.in_ok-kind.kind } ∷ []) c.in_ok-kind.ensures.scope
    ∙ ap (λ (kind : Option TermType). s ++ record { name = x.variable.text; type = kind } ∷ []) c.in_ok-kind.ensures.kind in
    record {
      scope_rest = ap (λ (inner : Scope). terms.within_let v n rest inner) next ∙ scope_next v n bs i x s c.items-test.true c.item-item.is ∙ c.items.invariant.scope_rest;
      rest =
          ap (λ (inner : Scope). noted c.term.new.first (terms.bind_faults v n rest inner)) next
          ∙ ap (λ (f : Option Fault). noted f (terms.bind_faults v n rest (s ++ record { name = x.variable.text; type = (judged v n x.term).type s } ∷ []))) c.in_ok-kind.ensures.faults
          ∙ let_next v n bs i x s first c.items-test.true c.item-item.is
          ∙ c.items.invariant.rest;
    }

pub cases-items-preserved : goal.cases-items-preserved
cases-items-preserved t0 c =
    let v : Vocabulary = c.args.known.now in
    let n : ℕ = c.args.unit in
    let s : Scope = c.args.scope.now in
    let x : RawCase = c.item-item.result in
    let cs : List RawCase = c.args.items.now in
    let i : ℕ = c.items.item-index in
    let first : Option Fault = c.items.first in
    let rest : List (Judged × Judged) = cases_judged v n (drop (i + 1) cs) in
    let before : c.items.scope ≡ s = c.items.invariant.scope_stays in
    let between : c.asked.new.scope ≡ s = c.in_ok-one.ensures.scope ∙ before in
    let want : c.or_else-want.result ≡ terms.or_else c.items.want ((judged v n x.label).type s) =
    c.or_else-want.ensures ∙ ap (terms.or_else c.items.want) (c.in_ok-one.ensures.kind ∙ ap (judged v n x.label).type before) in
    let value : c.or_else-value.result ≡ terms.or_else c.items.value ((judged v n x.value).type s) =
    c.or_else-value.ensures ∙ ap (terms.or_else c.items.value) (c.in_ok-other.ensures.kind ∙ ap (judged v n x.value).type between) in
    let noted_here : c.asked-in-items.new.first ≡ noted (noted first (terms.asked v n c.items.want s (judged v n x.label))) (terms.asked v n c.items.value s (judged v n x.value)) =
    c.in_ok-other.ensures.faults
    ∙ ap (λ (inner : Scope). noted c.asked.new.first (terms.asked v n c.items.value inner (judged v n x.value))) between
    ∙ ap (λ (f : Option Fault). noted f (terms.asked v n c.items.value s (judged v n x.value)))
    (c.in_ok-one.ensures.faults ∙ ap (λ (inner : Scope). noted first (terms.asked v n c.items.want inner (judged v n x.label))) before) in
    record {
      scope_stays = c.in_ok-other.ensures.scope ∙ between;
      kind_rest =
          ap (λ (kind : Option TermType). terms.or_else kind (terms.first_type s (map (λ (p : Judged × Judged). p.1) rest))) value
          ∙ values_next v n c.items.value s cs i x c.items-test.true c.item-item.is
          ∙ c.items.invariant.kind_rest;
      rest =
          ap (λ (f : Option Fault). noted f (cases_before v n c.or_else-want.result c.or_else-value.result s rest)) noted_here
          ∙ ap (λ (kind : Option TermType). noted (noted (noted first (terms.asked v n c.items.want s (judged v n x.label))) (terms.asked v n c.items.value s (judged v n x.value))) (cases_before v n kind c.or_else-value.result s rest)) want
          ∙ ap (λ (kind : Option TermType). noted (noted (noted first (terms.asked v n c.items.want s (judged v n x.label))) (terms.asked v n c.items.value s (judged v n x.value))) (cases_before v n (terms.or_else c.items.want ((judged v n x.label).type s)) kind s rest)) value
          ∙ cases_next v n c.items.want c.items.value s cs i x first c.items-test.true c.item-item.is
          ∙ c.items.invariant.rest;
    }

pub quantified-returns-clause-scope : goal.quantified-returns-clause-scope
quantified-returns-clause-scope t0 c =
    let v : Vocabulary = c.args.known.now in
    let n : ℕ = c.args.unit in
    let s : Scope = c.args.scope.now in
    c.leave.ensures
    ∙ ap (λ (k : ℕ). take k c.asked.new.scope) c.len-depth.ensures
    ∙ ap (take (length s)) (c.in_ok-asked.ensures.scope ∙ c.in_ok-ranged.ensures.scope)
    ∙ within_left v n c.args.items.now s

pub term-returns-in_ok-asked-in-Binary : goal.term-returns-in_ok-asked-in-Binary
term-returns-in_ok-asked-in-Binary t0 c =
    let v : Vocabulary = c.args.known.now in
    let n : ℕ = c.args.unit in
    let s : Scope = c.args.scope.now in
    let t : RawTerm = c.args.term.now in
    let first : Option Fault = c.args.first.now in
    let want : Option TermType = terms.asks v n c.in-Binary.op in
    let x : RawTerm = c.get-in-Binary.result.now in
    let y : RawTerm = c.get-in-Binary-2.result.now in
    let e : judged v n t ≡ judge_kind v n (RawTermKind-F.Binary c.in-Binary.op (judged v n x) (judged v n y)) t.at t.first = forms.binary v n t c.in-Binary.op x y (cc) in
    let asks : c.asks-want.result ≡ want = c.asks-want.ensures v n in
    let both : c.or_else.result ≡ terms.or_else want ((judged v n x).type s) =
    c.or_else.ensures
    ∙ ap (λ (kind : Option TermType). terms.or_else kind c.in_ok-left_kind-in-Binary.left_kind) asks
    ∙ ap (terms.or_else want) c.in_ok-left_kind-in-Binary.ensures.kind in
    record {
      kind = ap Some (c.gives.ensures v n) ∙ ap (λ (j : Judged). j.type s) (sym e);
      scope = c.in_ok-asked-in-Binary.ensures.scope ∙ c.in_ok-left_kind-in-Binary.ensures.scope;
      faults =
          c.in_ok-asked-in-Binary.ensures.faults
          ∙ ap (λ (inner : Scope). noted c.asked.new.first (terms.asked v n c.or_else.result inner (judged v n y))) c.in_ok-left_kind-in-Binary.ensures.scope
          ∙ ap (λ (kind : Option TermType). noted c.asked.new.first (terms.asked v n kind s (judged v n y))) both
          ∙ ap (λ (f : Option Fault). noted f (terms.asked v n (terms.or_else want ((judged v n x).type s)) s (judged v n y)))
          (c.in_ok-left_kind-in-Binary.ensures.faults ∙ ap (λ (kind : Option TermType). noted first (terms.asked v n kind s (judged v n x))) asks)
          ∙ sym (alike_noted v n first want s (judged v n x) (judged v n y))
          ∙ ap (λ (j : Judged). noted first (j.faults s)) (sym e);
    }

pub term-returns-in_ok-no_kind-in-Cond : goal.term-returns-in_ok-no_kind-in-Cond
term-returns-in_ok-no_kind-in-Cond t0 c =
    let v : Vocabulary = c.args.known.now in
    let n : ℕ = c.args.unit in
    let s : Scope = c.args.scope.now in
    let t : RawTerm = c.args.term.now in
    let first : Option Fault = c.args.first.now in
    let g : RawTerm = c.get-in-Cond.result.now in
    let x : RawTerm = c.get-in-Cond-2.result.now in
    let y : RawTerm = c.get-in-Cond-3.result.now in
    let e : judged v n t ≡ judge_kind v n (RawTermKind-F.Cond (judged v n g) (judged v n x) (judged v n y)) t.at t.first = forms.cond v n t g x y (cc) in
    let one : c.asked-in-Cond.new.scope ≡ s = c.in_ok-asked-in-Cond.ensures.scope in
    let two : c.asked-in-Cond-2.new.scope ≡ s = c.in_ok-yes_kind-in-Cond.ensures.scope ∙ one in
    let yes : c.in_ok-yes_kind-in-Cond.yes_kind ≡ (judged v n x).type s = c.in_ok-yes_kind-in-Cond.ensures.kind ∙ ap (judged v n x).type one in
    let no : c.in_ok-no_kind-in-Cond.no_kind ≡ (judged v n y).type s = c.in_ok-no_kind-in-Cond.ensures.kind ∙ ap (judged v n y).type two in
    record {
      kind =
          c.or_else-in-Cond.ensures
          ∙ ap (λ (kind : Option TermType). terms.or_else kind c.in_ok-no_kind-in-Cond.no_kind) yes
          ∙ ap (terms.or_else ((judged v n x).type s)) no
          ∙ sym (alike_type v n s (judged v n x) (judged v n y))
          ∙ ap (λ (j : Judged). j.type s) (sym e);
      scope = c.in_ok-no_kind-in-Cond.ensures.scope ∙ two;
      faults =
          c.in_ok-no_kind-in-Cond.ensures.faults
          ∙ ap (λ (inner : Scope). noted c.asked-in-Cond-2.new.first (terms.asked v n c.in_ok-yes_kind-in-Cond.yes_kind inner (judged v n y))) two
          ∙ ap (λ (kind : Option TermType). noted c.asked-in-Cond-2.new.first (terms.asked v n kind s (judged v n y))) yes
          ∙ ap (λ (f : Option Fault). noted f (terms.asked v n ((judged v n x).type s) s (judged v n y)))
          (c.in_ok-yes_kind-in-Cond.ensures.faults
          ∙ ap (λ (inner : Scope). noted c.asked-in-Cond.new.first (terms.asked v n None inner (judged v n x))) one
          ∙ ap (λ (f : Option Fault). noted f (terms.asked v n None s (judged v n x))) c.in_ok-asked-in-Cond.ensures.faults)
          ∙ sym (cond_noted v n first s (judged v n g) (judged v n x) (judged v n y))
          ∙ ap (λ (j : Judged). noted first (j.faults s)) (sym e);
    }

pub term-returns-in_ok-last-in-Switch : goal.term-returns-in_ok-last-in-Switch
term-returns-in_ok-last-in-Switch t0 c =
    let v : Vocabulary = c.args.known.now in
    let n : ℕ = c.args.unit in
    let s : Scope = c.args.scope.now in
    let t : RawTerm = c.args.term.now in
    let first : Option Fault = c.args.first.now in
    let x : RawTerm = c.get-in-Switch.result.now in
    let cs : List RawCase = c.slice-in-Switch.result.now in
    let y : RawTerm = c.get-in-Switch-2.result.now in
    let js : List (Judged × Judged) = cases_judged v n cs in
    let values : Option TermType = terms.first_type s (map (λ (p : Judged × Judged). p.1) js) in
    let e : judged v n t ≡ judge_kind v n (RawTermKind-F.Switch (judged v n x) js (judged v n y)) t.at t.first = forms.switch v n t x cs y (cc) in
    let one : c.term.new.scope ≡ s = c.in_ok-label-in-Switch.ensures.scope in
    let two : c.cases.new.scope ≡ s = c.in_ok-value-in-Switch.ensures.scope ∙ one in
    let value : c.in_ok-value-in-Switch.value ≡ values = c.in_ok-value-in-Switch.ensures.kind ∙ ap (λ (inner : Scope). terms.first_type inner (map (λ (p : Judged × Judged). p.1) js)) one in
    let last : c.in_ok-last-in-Switch.last ≡ (judged v n y).type s = c.in_ok-last-in-Switch.ensures.kind ∙ ap (judged v n y).type two in
    record {
      kind =
          c.or_else-in-Switch.ensures
          ∙ ap (λ (kind : Option TermType). terms.or_else kind c.in_ok-last-in-Switch.last) value
          ∙ ap (terms.or_else values) last
          ∙ sym (first_type_last s (map (λ (p : Judged × Judged). p.1) js) (judged v n y))
          ∙ ap (λ (j : Judged). j.type s) (sym e);
      scope = c.in_ok-last-in-Switch.ensures.scope ∙ two;
      faults =
          c.in_ok-last-in-Switch.ensures.faults
          ∙ ap (λ (inner : Scope). noted c.cases.new.first (terms.asked v n c.in_ok-value-in-Switch.value inner (judged v n y))) two
          ∙ ap (λ (kind : Option TermType). noted c.cases.new.first (terms.asked v n kind s (judged v n y))) value
          ∙ ap (λ (f : Option Fault). noted f (terms.asked v n values s (judged v n y)))
          (c.in_ok-value-in-Switch.ensures.faults
          ∙ ap (λ (inner : Scope). noted c.term.new.first (cases_before v n c.in_ok-label-in-Switch.label None inner js)) one
          ∙ ap (λ (kind : Option TermType). noted c.term.new.first (cases_before v n kind None s js)) c.in_ok-label-in-Switch.ensures.kind
          ∙ ap (λ (f : Option Fault). noted f (cases_before v n ((judged v n x).type s) None s js)) c.in_ok-label-in-Switch.ensures.faults)
          ∙ sym (switch_noted v n first ((judged v n x).faults s) ((judged v n x).type s) s js (judged v n y))
          ∙ ap (λ (j : Judged). noted first (j.faults s)) (sym e);
    }

pub term-returns-in_ok-inner_kind-in-Let : goal.term-returns-in_ok-inner_kind-in-Let
term-returns-in_ok-inner_kind-in-Let t0 c =
    let v : Vocabulary = c.args.known.now in
    let n : ℕ = c.args.unit in
    let s : Scope = c.args.scope.now in
    let t : RawTerm = c.args.term.now in
    let first : Option Fault = c.args.first.now in
    let bs : List RawBind = c.slice-in-Let.result.now in
    let x : RawTerm = c.get-in-Let.result.now in
    let js : List (RawName × Judged) = binds_judged v n bs in
    let e : judged v n t ≡ judge_kind v n (RawTermKind-F.Let js (judged v n x)) t.at t.first = forms.bound v n t bs x (cc) in
    let inside : c.binds.new.scope ≡ terms.within_let v n js s = c.in_ok-binds-in-Let.ensures.scope in
    record {
      kind = c.in_ok-inner_kind-in-Let.ensures.kind ∙ ap (judged v n x).type inside ∙ ap (λ (j : Judged). j.type s) (sym e);
      scope =
          c.leave.ensures
          ∙ ap (λ (k : ℕ). take k c.term-in-Let.new.scope) c.len-depth.ensures
          ∙ ap (take (length s)) (c.in_ok-inner_kind-in-Let.ensures.scope ∙ inside)
          ∙ let_left v n js s;
      faults =
          c.in_ok-inner_kind-in-Let.ensures.faults
          ∙ ap (λ (inner : Scope). noted c.binds.new.first ((judged v n x).faults inner)) inside
          ∙ ap (λ (f : Option Fault). noted f ((judged v n x).faults (terms.within_let v n js s))) c.in_ok-binds-in-Let.ensures.faults
          ∙ sym (noted_append first (terms.let_faults v n js s) ((judged v n x).faults (terms.within_let v n js s)))
          ∙ ap (λ (j : Judged). noted first (j.faults s)) (sym e);
    }
