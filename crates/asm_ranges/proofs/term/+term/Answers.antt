use Rattle.std.proofs.Common.{pos, ◌≡◌, ℕ, ◌+◌, List, [], ◌∷◌, ◌++◌, drop, take, Option, refl, sym, ap, subst, ◌∙◌}
use Rattle.std.specs.Prelude.{IfOk, OnOk}
use Rattle.asm_sign.specs.Vocabulary.{Vocabulary}
use Rattle.asm_tree.specs.declared.term.RawCase.{RawCase}
use Rattle.asm_tree.specs.declared.term.RawTerm.{RawTerm}
use Rattle.asm_tree.specs.declared.term.RawTermKind.TheOpen.{RawTermKind-F}
use Rattle.asm_faults.specs.declared.fault.Fault.{Fault}
use Rattle.asm_faults.specs.First.{noted}
use Rattle.asm_faults.specs.Ranges.{Scope, Spread, Between, Measured, measured, measure_kind, of_one, of_two, unless_refused, refused, either, either_case, each, case_faults, bound, within, within_let, bind_faults}
use Rattle.asm_faults.proofs.Noting.{noted_append}
use Rattle.asm_ranges.specs.Spreads.{bounds_of}
use Rattle.asm_ranges.specs.Pieces.{terms_measured, cases_measured}
use Rattle.asm_ranges.proofs.Bounds.{kept, not_refused}
use Rattle.asm_ranges.proofs.Either.{either_none}
use Rattle.asm_ranges.proofs.Ends.{drop_end}
use Rattle.asm_ranges.proofs.Forms as forms
use Rattle.asm_ranges.proofs.Steps.{noted_three, noted_pair, let_left, within_left, terms_next, cases_next, values_next, scope_next, let_next, with_bind}
use Rattle.asm_ranges.proofs.term.+term.Goals as goal

pub term-returns-in-Number : goal.term-returns-in-Number
term-returns-in-Number t0 c =
    let v : Vocabulary = c.args.known.now in
    let n : ℕ = c.args.unit in
    let s : Scope = c.args.scope.now in
    let t : RawTerm = c.args.item.now in
    let x : ℕ = c.in-Number.number in
    let r : Spread = Between (pos x) (pos x) in
    let e : measured v n t ≡ measure_kind v n (RawTermKind-F.Number x) t.at t.first = forms.number v n t x c.in-Number.is in
    record {
      spread = c.literal.ensures.value ∙ kept r c.literal.ensures.narrow ∙ ap (λ (m : Measured). m.spread s) (sym e);
      scope = refl;
      faults = ap (noted c.args.first.now) (sym (not_refused v n r t.at t.first c.literal.ensures.narrow)) ∙ ap (λ (m : Measured). noted c.args.first.now (m.faults s)) (sym e);
    }

pub term-returns-in-Truth : goal.term-returns-in-Truth
term-returns-in-Truth t0 c =
    let v : Vocabulary = c.args.known.now in
    let n : ℕ = c.args.unit in
    let s : Scope = c.args.scope.now in
    let t : RawTerm = c.args.item.now in
    let e : measured v n t ≡ measure_kind v n (RawTermKind-F.Truth c.in-Truth.field-0) t.at t.first = forms.truth v n t c.in-Truth.field-0 c.in-Truth.is in
    record {
      spread = ap (λ (m : Measured). m.spread s) (sym e);
      scope = refl;
      faults = ap (λ (m : Measured). noted c.args.first.now (m.faults s)) (sym e);
    }

pub term-returns-in-Undef : goal.term-returns-in-Undef
term-returns-in-Undef t0 c =
    let v : Vocabulary = c.args.known.now in
    let n : ℕ = c.args.unit in
    let s : Scope = c.args.scope.now in
    let t : RawTerm = c.args.item.now in
    let e : measured v n t ≡ measure_kind v n (RawTermKind-F.Undef) t.at t.first = forms.undef v n t c.in-Undef.is in
    record {
      spread = c.one.ensures ∙ ap (λ (m : Measured). m.spread s) (sym e);
      scope = refl;
      faults = ap (λ (m : Measured). noted c.args.first.now (m.faults s)) (sym e);
    }

pub term-returns-in-Variable : goal.term-returns-in-Variable
term-returns-in-Variable t0 c =
    let v : Vocabulary = c.args.known.now in
    let n : ℕ = c.args.unit in
    let s : Scope = c.args.scope.now in
    let t : RawTerm = c.args.item.now in
    let e : measured v n t ≡ measure_kind v n (RawTermKind-F.Variable c.in-Variable.name) t.at t.first = forms.variable v n t c.in-Variable.name c.in-Variable.is in
    record {
      spread = c.find.ensures ∙ ap (λ (m : Measured). m.spread s) (sym e);
      scope = refl;
      faults = ap (λ (m : Measured). noted c.args.first.now (m.faults s)) (sym e);
    }

pub term-returns-in-Element : goal.term-returns-in-Element
term-returns-in-Element t0 c =
    let v : Vocabulary = c.args.known.now in
    let n : ℕ = c.args.unit in
    let s : Scope = c.args.scope.now in
    let t : RawTerm = c.args.item.now in
    let e : measured v n t ≡ measure_kind v n (RawTermKind-F.Element c.in-Element.field-0) t.at t.first = forms.element v n t c.in-Element.field-0 c.in-Element.is in
    record {
      spread = ap (λ (m : Measured). m.spread s) (sym e);
      scope = refl;
      faults = ap (λ (m : Measured). noted c.args.first.now (m.faults s)) (sym e);
    }

pub term-returns-in-Call : goal.term-returns-in-Call
term-returns-in-Call t0 c =
    let v : Vocabulary = c.args.known.now in
    let n : ℕ = c.args.unit in
    let s : Scope = c.args.scope.now in
    let t : RawTerm = c.args.item.now in
    let e : measured v n t ≡ measure_kind v n (RawTermKind-F.Call c.in-Call.name (terms_measured v n c.slice.result.now)) t.at t.first = forms.call v n t c.in-Call.name c.slice.result.now (cc (c.in-Call.is, c.slice.ensures)) in
    record {
      spread = subst (λ (m : Measured). IfOk c.call.result (λ r. bounds_of r ≡ m.spread s)) (sym e) c.call.ensures.spread;
      scope = c.call.ensures.scope;
      faults = subst (λ (m : Measured). OnOk c.call.result (c.call.new.first ≡ noted c.args.first.now (m.faults s))) (sym e) c.call.ensures.faults;
    }

pub term-returns-in-Unary : goal.term-returns-in-Unary
term-returns-in-Unary t0 c =
    let v : Vocabulary = c.args.known.now in
    let n : ℕ = c.args.unit in
    let s : Scope = c.args.scope.now in
    let t : RawTerm = c.args.item.now in
    let e : measured v n t ≡ measure_kind v n (RawTermKind-F.Unary c.in-Unary.op (measured v n c.get.result.now)) t.at t.first = forms.unary v n t c.in-Unary.op c.get.result.now (cc (c.in-Unary.is, c.get.ensures)) in
    record {
      spread = subst (λ (m : Measured). IfOk c.unary.result (λ r. bounds_of r ≡ m.spread s)) (sym e) c.unary.ensures.spread;
      scope = c.unary.ensures.scope;
      faults = subst (λ (m : Measured). OnOk c.unary.result (c.unary.new.first ≡ noted c.args.first.now (m.faults s))) (sym e) c.unary.ensures.faults;
    }

pub term-returns-in-Quant : goal.term-returns-in-Quant
term-returns-in-Quant t0 c =
    let v : Vocabulary = c.args.known.now in
    let n : ℕ = c.args.unit in
    let s : Scope = c.args.scope.now in
    let t : RawTerm = c.args.item.now in
    let e : measured v n t ≡ measure_kind v n (RawTermKind-F.Quant c.in-Quant.field-0 c.slice-in-Quant.result.now (measured v n c.get-in-Quant.result.now)) t.at t.first = forms.quantified v n t c.in-Quant.field-0 c.slice-in-Quant.result.now c.get-in-Quant.result.now (cc (c.in-Quant.is, c.slice-in-Quant.ensures, c.get-in-Quant.ensures)) in
    record {
      spread = subst (λ (m : Measured). IfOk c.quantified.result (λ r. bounds_of r ≡ m.spread s)) (sym e) c.quantified.ensures.spread;
      scope = c.quantified.ensures.scope;
      faults = subst (λ (m : Measured). OnOk c.quantified.result (c.quantified.new.first ≡ noted c.args.first.now (m.faults s))) (sym e) c.quantified.ensures.faults;
    }

-- ---- lists of terms

pub terms-items-preserved : goal.terms-items-preserved
terms-items-preserved t0 c =
    let v : Vocabulary = c.args.known.now in
    let n : ℕ = c.args.unit in
    let s : Scope = c.args.scope.now in
    let m : Measured = measured v n c.item-item.result in
    let one : c.term.new.first ≡ noted c.items.first (m.faults s) = c.in_ok-term.ensures.faults ∙ ap (λ (z : Scope). noted c.items.first (m.faults z)) c.items.invariant.scope in
    record {
      scope = c.in_ok-term.ensures.scope ∙ c.items.invariant.scope;
      faults = ap (λ (f : Option Fault). noted f (each s (terms_measured v n (drop (c.items.item-index + 1) c.args.items.now)))) one
          ∙ terms_next v n s c.args.items.now c.items.item-index c.item-item.result c.items.first c.items-test.true c.item-item.is ∙ c.items.invariant.faults;
    }

-- ---- operators

pub unary-returns-clause-spread : goal.unary-returns-clause-spread
unary-returns-clause-spread t0 c =
    c.in_ok-unless_refused.ensures.spread _ c.of_one.ensures ∙ ap (λ (r : Spread). unless_refused (of_one c.args.op r)) c.in_ok-spread.ensures.spread

pub unary-returns-clause-faults : goal.unary-returns-clause-faults
unary-returns-clause-faults t0 c =
    let v : Vocabulary = c.args.known.now in
    let n : ℕ = c.args.unit in
    let s : Scope = c.args.scope.now in
    let m : Measured = measured v n c.args.operand.now in
    let over : List Fault = refused v n (of_one c.args.op (m.spread s)) c.args.at c.args.name.now in
    c.in_ok-unless_refused.ensures.faults v _ c.of_one.ensures
    ∙ ap (λ (r : Spread). noted c.term.new.first (refused v n (of_one c.args.op r) c.args.at c.args.name.now)) c.in_ok-spread.ensures.spread
    ∙ ap (λ (f : Option Fault). noted f over) c.in_ok-spread.ensures.faults
    ∙ sym (noted_append c.args.first.now (m.faults s) over)

pub cases-items-init : goal.cases-items-init
cases-items-init t0 c =
    record { scope = refl; faults = refl; spread = λ other. either_none (either_case c.args.scope.now (cases_measured c.args.known.now c.args.unit c.args.items.now) other) }

pub cases-items-preserved : goal.cases-items-preserved
cases-items-preserved t0 c =
    let v : Vocabulary = c.args.known.now in
    let n : ℕ = c.args.unit in
    let s : Scope = c.args.scope.now in
    let b = c.item-item.result in
    let l : Measured = measured v n b.label in
    let m : Measured = measured v n b.value in
    let same = c.items.invariant.scope in
    let one : c.term.new.first ≡ noted c.items.first (l.faults s) = c.in_ok-term.ensures.faults ∙ ap (λ (z : Scope). noted c.items.first (l.faults z)) same in
    let two : c.term-in-items.new.first ≡ noted c.term.new.first (m.faults s) = c.in_ok-value.ensures.faults ∙ ap (λ (z : Scope). noted c.term.new.first (m.faults z)) (c.in_ok-term.ensures.scope ∙ same) in
    let given : bounds_of c.in_ok-value.value ≡ m.spread s = c.in_ok-value.ensures.spread ∙ ap m.spread (c.in_ok-term.ensures.scope ∙ same) in
    record {
      scope = c.in_ok-value.ensures.scope ∙ c.in_ok-term.ensures.scope ∙ same;
      faults = ap (λ (f : Option Fault). noted f (case_faults s (cases_measured v n (drop (c.items.item-index + 1) c.args.items.now)))) (two ∙ ap (λ (f : Option Fault). noted f (m.faults s)) one)
          ∙ cases_next v n s c.args.items.now c.items.item-index b c.items.first c.items-test.true c.item-item.is ∙ c.items.invariant.faults;
      spread = λ other.
          ap (λ (r : Spread). either r (either_case s (cases_measured v n (drop (c.items.item-index + 1) c.args.items.now)) other)) (c.either-spread.ensures ∙ ap (either (bounds_of c.items.spread)) given)
          ∙ values_next v n s c.args.items.now c.items.item-index b (bounds_of c.items.spread) other c.items-test.true c.item-item.is ∙ c.items.invariant.spread other;
    }

pub cases-returns-clause-spread : goal.cases-returns-clause-spread
cases-returns-clause-spread t0 c other =
    sym (c.items.invariant.spread other)
    ∙ ap (λ (xs : List RawCase). either (bounds_of c.items.spread) (either_case c.args.scope.now (cases_measured c.args.known.now c.args.unit xs) other)) (drop_end c.args.items.now c.items.item-index c.items-test.false)

-- ---- variables

pub binds-items-preserved : goal.binds-items-preserved
binds-items-preserved t0 c =
    let v : Vocabulary = c.args.known.now in
    let n : ℕ = c.args.unit in
    let b = c.item-item.result in
    let m : Measured = measured v n b.term in
    let s : Scope = c.items.scope in
    let here : c.bind.new.self ≡ with_bind v n b s = c.in_ok-bind.ensures.ok ∙ (λ i. c.in_ok-spread.ensures.scope i ++ record { name = b.variable.text; spread = c.in_ok-spread.ensures.spread i } ∷ []) in
    record {
      scope = ap (within_let (bound v n (drop (c.items.item-index + 1) c.args.items.now))) here
          ∙ scope_next v n c.args.items.now c.items.item-index b s c.items-test.true c.item-item.is ∙ c.items.invariant.scope;
      faults = (λ i. noted (c.in_ok-spread.ensures.faults i) (bind_faults (bound v n (drop (c.items.item-index + 1) c.args.items.now)) (here i)))
          ∙ let_next v n c.args.items.now c.items.item-index b s c.items.first c.items-test.true c.item-item.is ∙ c.items.invariant.faults;
    }

pub quantified-returns-clause-scope : goal.quantified-returns-clause-scope
quantified-returns-clause-scope t0 c =
    let v : Vocabulary = c.args.known.now in
    let s : Scope = c.args.scope.now in
    let bs = c.args.items.now in
    c.leave.ensures ∙ ap (take c.len-depth.result) (c.in_ok-term.ensures.scope ∙ c.in_ok-within.ensures)
    ∙ ap (λ (d : ℕ). take d (within v bs s)) c.len-depth.ensures ∙ within_left v bs s

pub quantified-returns-clause-faults : goal.quantified-returns-clause-faults
quantified-returns-clause-faults t0 c =
    let m : Measured = measured c.args.known.now c.args.unit c.args.guard.now in
    c.in_ok-term.ensures.faults ∙ ap (λ (z : Scope). noted c.args.first.now (m.faults z)) c.in_ok-within.ensures

-- ---- the operands that are left are parts

-- ---- operators of two operands, choices and `let`

pub term-returns-in_ok-unless_refused-in-Binary-clause-spread : goal.term-returns-in_ok-unless_refused-in-Binary-clause-spread
term-returns-in_ok-unless_refused-in-Binary-clause-spread t0 c =
    let v : Vocabulary = c.args.known.now in
    let n : ℕ = c.args.unit in
    let s : Scope = c.args.scope.now in
    let t : RawTerm = c.args.item.now in
    let e : measured v n t ≡ measure_kind v n (RawTermKind-F.Binary c.in-Binary.op (measured v n c.get-in-Binary.result.now) (measured v n c.get-in-Binary-2.result.now)) t.at t.first = forms.binary v n t c.in-Binary.op c.get-in-Binary.result.now c.get-in-Binary-2.result.now (cc (c.in-Binary.is, c.get-in-Binary.ensures, c.get-in-Binary-2.ensures)) in
    let x : Measured = measured v n c.get-in-Binary.result.now in
    let y : Measured = measured v n c.get-in-Binary-2.result.now in
    let right : bounds_of c.in_ok-other-in-Binary.other ≡ y.spread s = c.in_ok-other-in-Binary.ensures.spread ∙ ap y.spread c.in_ok-one-in-Binary.ensures.scope in
    c.in_ok-unless_refused-in-Binary.ensures.spread _ c.of_two-given.ensures ∙ (λ i. unless_refused (of_two c.in-Binary.op (c.in_ok-one-in-Binary.ensures.spread i) (right i))) ∙ ap (λ (m : Measured). m.spread s) (sym e)

pub term-returns-in_ok-unless_refused-in-Binary-clause-scope : goal.term-returns-in_ok-unless_refused-in-Binary-clause-scope
term-returns-in_ok-unless_refused-in-Binary-clause-scope t0 c =
    c.in_ok-other-in-Binary.ensures.scope ∙ c.in_ok-one-in-Binary.ensures.scope

pub term-returns-in_ok-unless_refused-in-Binary-clause-faults : goal.term-returns-in_ok-unless_refused-in-Binary-clause-faults
term-returns-in_ok-unless_refused-in-Binary-clause-faults t0 c =
    let v : Vocabulary = c.args.known.now in
    let n : ℕ = c.args.unit in
    let s : Scope = c.args.scope.now in
    let t : RawTerm = c.args.item.now in
    let e : measured v n t ≡ measure_kind v n (RawTermKind-F.Binary c.in-Binary.op (measured v n c.get-in-Binary.result.now) (measured v n c.get-in-Binary-2.result.now)) t.at t.first = forms.binary v n t c.in-Binary.op c.get-in-Binary.result.now c.get-in-Binary-2.result.now (cc (c.in-Binary.is, c.get-in-Binary.ensures, c.get-in-Binary-2.ensures)) in
    let x : Measured = measured v n c.get-in-Binary.result.now in
    let y : Measured = measured v n c.get-in-Binary-2.result.now in
    let right : bounds_of c.in_ok-other-in-Binary.other ≡ y.spread s = c.in_ok-other-in-Binary.ensures.spread ∙ ap y.spread c.in_ok-one-in-Binary.ensures.scope in
    let over : List Fault = refused v n (of_two c.in-Binary.op (x.spread s) (y.spread s)) t.at t.first in
    let two : c.term-in-Binary.new.first ≡ noted c.term.new.first (y.faults s) = c.in_ok-other-in-Binary.ensures.faults ∙ ap (λ (z : Scope). noted c.term.new.first (y.faults z)) c.in_ok-one-in-Binary.ensures.scope in
    c.in_ok-unless_refused-in-Binary.ensures.faults v _ c.of_two-given.ensures
    ∙ (λ i. noted c.term-in-Binary.new.first (refused v n (of_two c.in-Binary.op (c.in_ok-one-in-Binary.ensures.spread i) (right i)) t.at t.first))
    ∙ ap (λ (f : Option Fault). noted f over) (two ∙ ap (λ (f : Option Fault). noted f (y.faults s)) c.in_ok-one-in-Binary.ensures.faults)
    ∙ sym (noted_pair c.args.first.now (x.faults s) (y.faults s) over)
    ∙ ap (λ (m : Measured). noted c.args.first.now (m.faults s)) (sym e)

pub term-returns-in_ok-failed-in-Cond-clause-spread : goal.term-returns-in_ok-failed-in-Cond-clause-spread
term-returns-in_ok-failed-in-Cond-clause-spread t0 c =
    let v : Vocabulary = c.args.known.now in
    let n : ℕ = c.args.unit in
    let s : Scope = c.args.scope.now in
    let t : RawTerm = c.args.item.now in
    let e : measured v n t ≡ measure_kind v n (RawTermKind-F.Cond (measured v n c.get-in-Cond.result.now) (measured v n c.get-in-Cond-2.result.now) (measured v n c.get-in-Cond-3.result.now)) t.at t.first = forms.cond v n t c.get-in-Cond.result.now c.get-in-Cond-2.result.now c.get-in-Cond-3.result.now (cc (c.in-Cond.is, c.get-in-Cond.ensures, c.get-in-Cond-2.ensures, c.get-in-Cond-3.ensures)) in
    let g : Measured = measured v n c.get-in-Cond.result.now in
    let x : Measured = measured v n c.get-in-Cond-2.result.now in
    let y : Measured = measured v n c.get-in-Cond-3.result.now in
    let same : c.term-in-Cond.new.scope ≡ s = c.in_ok-term-in-Cond.ensures.scope in
    let still : c.term-in-Cond-2.new.scope ≡ s = c.in_ok-held-in-Cond.ensures.scope ∙ same in
    let left : bounds_of c.in_ok-held-in-Cond.held ≡ x.spread s = c.in_ok-held-in-Cond.ensures.spread ∙ ap x.spread same in
    let right : bounds_of c.in_ok-failed-in-Cond.failed ≡ y.spread s = c.in_ok-failed-in-Cond.ensures.spread ∙ ap y.spread still in
    c.either.ensures ∙ (λ i. either (left i) (right i)) ∙ ap (λ (m : Measured). m.spread s) (sym e)

pub term-returns-in_ok-failed-in-Cond-clause-scope : goal.term-returns-in_ok-failed-in-Cond-clause-scope
term-returns-in_ok-failed-in-Cond-clause-scope t0 c =
    c.in_ok-failed-in-Cond.ensures.scope ∙ c.in_ok-held-in-Cond.ensures.scope ∙ c.in_ok-term-in-Cond.ensures.scope

pub term-returns-in_ok-failed-in-Cond-clause-faults : goal.term-returns-in_ok-failed-in-Cond-clause-faults
term-returns-in_ok-failed-in-Cond-clause-faults t0 c =
    let v : Vocabulary = c.args.known.now in
    let n : ℕ = c.args.unit in
    let s : Scope = c.args.scope.now in
    let t : RawTerm = c.args.item.now in
    let e : measured v n t ≡ measure_kind v n (RawTermKind-F.Cond (measured v n c.get-in-Cond.result.now) (measured v n c.get-in-Cond-2.result.now) (measured v n c.get-in-Cond-3.result.now)) t.at t.first = forms.cond v n t c.get-in-Cond.result.now c.get-in-Cond-2.result.now c.get-in-Cond-3.result.now (cc (c.in-Cond.is, c.get-in-Cond.ensures, c.get-in-Cond-2.ensures, c.get-in-Cond-3.ensures)) in
    let g : Measured = measured v n c.get-in-Cond.result.now in
    let x : Measured = measured v n c.get-in-Cond-2.result.now in
    let y : Measured = measured v n c.get-in-Cond-3.result.now in
    let same : c.term-in-Cond.new.scope ≡ s = c.in_ok-term-in-Cond.ensures.scope in
    let still : c.term-in-Cond-2.new.scope ≡ s = c.in_ok-held-in-Cond.ensures.scope ∙ same in
    let two : c.term-in-Cond-2.new.first ≡ noted c.term-in-Cond.new.first (x.faults s) = c.in_ok-held-in-Cond.ensures.faults ∙ ap (λ (z : Scope). noted c.term-in-Cond.new.first (x.faults z)) same in
    let three : c.term-in-Cond-3.new.first ≡ noted c.term-in-Cond-2.new.first (y.faults s) = c.in_ok-failed-in-Cond.ensures.faults ∙ ap (λ (z : Scope). noted c.term-in-Cond-2.new.first (y.faults z)) still in
    three ∙ ap (λ (f : Option Fault). noted f (y.faults s)) (two ∙ ap (λ (f : Option Fault). noted f (x.faults s)) c.in_ok-term-in-Cond.ensures.faults)
    ∙ sym (noted_three c.args.first.now (g.faults s) (x.faults s) (y.faults s))
    ∙ ap (λ (m : Measured). noted c.args.first.now (m.faults s)) (sym e)

pub term-returns-in_ok-unmet-in-Switch-clause-spread : goal.term-returns-in_ok-unmet-in-Switch-clause-spread
term-returns-in_ok-unmet-in-Switch-clause-spread t0 c =
    let v : Vocabulary = c.args.known.now in
    let n : ℕ = c.args.unit in
    let s : Scope = c.args.scope.now in
    let t : RawTerm = c.args.item.now in
    let e : measured v n t ≡ measure_kind v n (RawTermKind-F.Switch (measured v n c.get-in-Switch.result.now) (cases_measured v n c.slice-in-Switch.result.now) (measured v n c.get-in-Switch-2.result.now)) t.at t.first = forms.switch v n t c.get-in-Switch.result.now c.slice-in-Switch.result.now c.get-in-Switch-2.result.now (cc (c.in-Switch.is, c.get-in-Switch.ensures, c.slice-in-Switch.ensures, c.get-in-Switch-2.ensures)) in
    let g : Measured = measured v n c.get-in-Switch.result.now in
    let k : Measured = measured v n c.get-in-Switch-2.result.now in
    let cs = cases_measured v n c.slice-in-Switch.result.now in
    let same : c.term-in-Switch.new.scope ≡ s = c.in_ok-term-in-Switch.ensures.scope in
    let still : c.cases.new.scope ≡ s = c.in_ok-met-in-Switch.ensures.scope ∙ same in
    let last : bounds_of c.in_ok-unmet-in-Switch.unmet ≡ k.spread s = c.in_ok-unmet-in-Switch.ensures.spread ∙ ap k.spread still in
    c.either-in-Switch.ensures ∙ ap (either (bounds_of c.in_ok-met-in-Switch.met)) last
    ∙ sym (subst (λ (z : Scope). either_case z cs k ≡ either (bounds_of c.in_ok-met-in-Switch.met) (k.spread z)) same (c.in_ok-met-in-Switch.ensures.spread k))
    ∙ ap (λ (m : Measured). m.spread s) (sym e)

pub term-returns-in_ok-unmet-in-Switch-clause-scope : goal.term-returns-in_ok-unmet-in-Switch-clause-scope
term-returns-in_ok-unmet-in-Switch-clause-scope t0 c =
    c.in_ok-unmet-in-Switch.ensures.scope ∙ c.in_ok-met-in-Switch.ensures.scope ∙ c.in_ok-term-in-Switch.ensures.scope

pub term-returns-in_ok-unmet-in-Switch-clause-faults : goal.term-returns-in_ok-unmet-in-Switch-clause-faults
term-returns-in_ok-unmet-in-Switch-clause-faults t0 c =
    let v : Vocabulary = c.args.known.now in
    let n : ℕ = c.args.unit in
    let s : Scope = c.args.scope.now in
    let t : RawTerm = c.args.item.now in
    let e : measured v n t ≡ measure_kind v n (RawTermKind-F.Switch (measured v n c.get-in-Switch.result.now) (cases_measured v n c.slice-in-Switch.result.now) (measured v n c.get-in-Switch-2.result.now)) t.at t.first = forms.switch v n t c.get-in-Switch.result.now c.slice-in-Switch.result.now c.get-in-Switch-2.result.now (cc (c.in-Switch.is, c.get-in-Switch.ensures, c.slice-in-Switch.ensures, c.get-in-Switch-2.ensures)) in
    let g : Measured = measured v n c.get-in-Switch.result.now in
    let k : Measured = measured v n c.get-in-Switch-2.result.now in
    let cs = cases_measured v n c.slice-in-Switch.result.now in
    let same : c.term-in-Switch.new.scope ≡ s = c.in_ok-term-in-Switch.ensures.scope in
    let still : c.cases.new.scope ≡ s = c.in_ok-met-in-Switch.ensures.scope ∙ same in
    let two : c.cases.new.first ≡ noted c.term-in-Switch.new.first (case_faults s cs) = c.in_ok-met-in-Switch.ensures.faults ∙ ap (λ (z : Scope). noted c.term-in-Switch.new.first (case_faults z cs)) same in
    let three : c.term-in-Switch-2.new.first ≡ noted c.cases.new.first (k.faults s) = c.in_ok-unmet-in-Switch.ensures.faults ∙ ap (λ (z : Scope). noted c.cases.new.first (k.faults z)) still in
    three ∙ ap (λ (f : Option Fault). noted f (k.faults s)) (two ∙ ap (λ (f : Option Fault). noted f (case_faults s cs)) c.in_ok-term-in-Switch.ensures.faults)
    ∙ sym (noted_three c.args.first.now (g.faults s) (case_faults s cs) (k.faults s))
    ∙ ap (λ (m : Measured). noted c.args.first.now (m.faults s)) (sym e)

pub term-returns-in_ok-inner-in-Let-clause-spread : goal.term-returns-in_ok-inner-in-Let-clause-spread
term-returns-in_ok-inner-in-Let-clause-spread t0 c =
    let v : Vocabulary = c.args.known.now in
    let n : ℕ = c.args.unit in
    let s : Scope = c.args.scope.now in
    let t : RawTerm = c.args.item.now in
    let e : measured v n t ≡ measure_kind v n (RawTermKind-F.Let (bound v n c.slice-in-Let.result.now) (measured v n c.get-in-Let.result.now)) t.at t.first = forms.bound v n t c.slice-in-Let.result.now c.get-in-Let.result.now (cc (c.in-Let.is, c.slice-in-Let.ensures, c.get-in-Let.ensures)) in
    let m : Measured = measured v n c.get-in-Let.result.now in
    let bs = bound v n c.slice-in-Let.result.now in
    c.in_ok-inner-in-Let.ensures.spread ∙ ap m.spread c.in_ok-binds-in-Let.ensures.scope ∙ ap (λ (m : Measured). m.spread s) (sym e)

pub term-returns-in_ok-inner-in-Let-clause-scope : goal.term-returns-in_ok-inner-in-Let-clause-scope
term-returns-in_ok-inner-in-Let-clause-scope t0 c =
    let v : Vocabulary = c.args.known.now in
    let n : ℕ = c.args.unit in
    let s : Scope = c.args.scope.now in
    let bs = bound v n c.slice-in-Let.result.now in
    c.leave.ensures ∙ ap (take c.len-depth.result) (c.in_ok-inner-in-Let.ensures.scope ∙ c.in_ok-binds-in-Let.ensures.scope)
    ∙ ap (λ (d : ℕ). take d (within_let bs s)) c.len-depth.ensures ∙ let_left bs s

pub term-returns-in_ok-inner-in-Let-clause-faults : goal.term-returns-in_ok-inner-in-Let-clause-faults
term-returns-in_ok-inner-in-Let-clause-faults t0 c =
    let v : Vocabulary = c.args.known.now in
    let n : ℕ = c.args.unit in
    let s : Scope = c.args.scope.now in
    let t : RawTerm = c.args.item.now in
    let e : measured v n t ≡ measure_kind v n (RawTermKind-F.Let (bound v n c.slice-in-Let.result.now) (measured v n c.get-in-Let.result.now)) t.at t.first = forms.bound v n t c.slice-in-Let.result.now c.get-in-Let.result.now (cc (c.in-Let.is, c.slice-in-Let.ensures, c.get-in-Let.ensures)) in
    let m : Measured = measured v n c.get-in-Let.result.now in
    let bs = bound v n c.slice-in-Let.result.now in
    c.in_ok-inner-in-Let.ensures.faults ∙ ap (λ (z : Scope). noted c.binds.new.first (m.faults z)) c.in_ok-binds-in-Let.ensures.scope
    ∙ ap (λ (f : Option Fault). noted f (m.faults (within_let bs s))) c.in_ok-binds-in-Let.ensures.faults
    ∙ sym (noted_append c.args.first.now (bind_faults bs s) (m.faults (within_let bs s)))
    ∙ ap (λ (m : Measured). noted c.args.first.now (m.faults s)) (sym e)
