use Rattle.std.proofs.Common.{◌≡◌, suc, ◌+◌, ◌<◌, ◌≤◌, length, drop, sym, ap, subst, ◌∙◌, arith}
use Rattle.std.proofs.lemmas.Result.{err_from_is_err_and}
use Rattle.asm_sign.specs.Vocabulary.{locations}
use Rattle.asm_state.specs.State.{IsUndefined}
use Rattle.asm_node.specs.Model.{machine_of}
use Rattle.asm_node.specs.Step.{IsState, initial}
use Rattle.asm_eval.specs.Beginning.{Prevents, started_at}
use Rattle.std.proofs.Common.{slice_get}
use Rattle.asm_eval.proofs.Begun.{begun, then_on, begun-step, begun-end, prevents-on, initial-begun}
use Rattle.asm_eval.proofs.Starting.{undefined-is-state}
use Rattle.asm_eval.proofs.begin.initial.Goals as goal

pub loop-slot-init : goal.loop-slot-init
loop-slot-init c =
    let m = machine_of c.args.model.now in
    let s = c.in_ok-undefined.undefined in
    let none = subst (λ v. IsUndefined v s) c.signature.ensures c.in_ok-undefined.ensures.undefined in
    record {
      is_state = subst (IsState m) (sym c.in_ok-store.ensures) (undefined-is-state m s none);
      begun = subst (λ t. initial m ≡ begun m t 0 (drop 0 (locations m.signature))) (sym c.in_ok-store.ensures) (initial-begun m s none);
    }

pub loop-slot-preserved : goal.loop-slot-preserved
loop-slot-preserved c =
    let m = machine_of c.args.model.now in
    let k = c.loop-slot.slot in
    let xs = locations m.signature in
    let lt : k < length xs = omega (arith, c.loop-slot-test.true, c.slots-slot-end.ensures.value, ap (λ s. length (locations s)) c.signature-2.ensures) in
    let next : suc k ≡ k + 1 = omega arith in
    record {
      is_state = c.in_ok-start.ensures.state;
      begun = c.loop-slot.invariant.begun ∙ begun-step m c.loop-slot.store k k xs lt
          ∙ ap (λ r. then_on r (λ t. begun m t (suc k) (drop (suc k) xs))) c.in_ok-start.ensures.begins ∙ ap (λ n. begun m c.start.new.store n (drop n xs)) next;
    }

pub returns-clause-begins : goal.returns-clause-begins
returns-clause-begins c =
    let m = machine_of c.args.model.now in
    let k = c.loop-slot.slot in
    let xs = locations m.signature in
    let past : length xs ≤ k = omega (arith, c.loop-slot-test.false, c.slots-slot-end.ensures.value, ap (λ s. length (locations s)) c.signature-2.ensures) in
    c.loop-slot.invariant.begun ∙ begun-end m c.loop-slot.store k k xs past

pub returns-in_err-start-clause-begins : goal.returns-in_err-start-clause-begins
returns-in_err-start-clause-begins c =
    let m = machine_of c.args.model.now in
    let k = c.loop-slot.slot in
    let xs = locations m.signature in
    let e = c.in_err-start.field-0.0 in
    let lt : k < length xs = omega (arith, c.loop-slot-test.true, c.slots-slot-end.ensures.value, ap (λ s. length (locations s)) c.signature-2.ensures) in
    let p = err_from_is_err_and c.from_residual-in_err-start.result c.from_residual-in_err-start.ensures.1 in
    rw (p.1, p.2) (subst (Prevents e) (sym (c.loop-slot.invariant.begun ∙ begun-step m c.loop-slot.store k k xs lt))
    (prevents-on e (started_at m c.loop-slot.store k (slice_get xs k)) (λ t. begun m t (suc k) (drop (suc k) xs)) c.in_err-start.ensures.begins))
