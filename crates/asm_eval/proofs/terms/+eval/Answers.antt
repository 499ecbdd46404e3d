use Rattle.std.proofs.Common.{slice_get, length, drop, ◌+◌, ◌-◌, ◌*◌, ◌≤◌, ◌<◌, ◌≡◌, true, false, List, ◌∷◌, ◌++◌, sym, ap, subst, ◌∙◌, refl, arith}
use Rattle.std.specs.Prelude.{Contains}
use Rattle.std.proofs.lemmas.Result.{err_from_is_err_and}
use Rattle.asm_domain.specs.declared.value.Value.{Value}
use Rattle.asm_domain.specs.declared.value.Value.TheVariants.{Undef, Bool}
use Rattle.asm_node.specs.Env.{places_of, Holds}
use Rattle.asm_node.specs.Exact.{IsSmall, IsOfCall, IsExactIn, nothing, exact_within}
use Rattle.asm_node.specs.Machine.{tuples_of}
use Rattle.asm_node.specs.Model.{machine_of, defined_by}
use Rattle.asm_node.specs.Term.{Outcome, Gives, and_then, branch, read, with_value, put_tuple, guard_values, nowhere, unbound, value_of, calls_within}
use Rattle.asm_node.specs.Tree.{plain, plain_kind, plain_all}
use Rattle.asm_node.specs.Values.{result_of, quantified, within}
use Rattle.asm_node.specs.Weight.{nodes, nodes_all, weight_of, IsLighter}
use Rattle.asm_node.proofs.Closed.{places-closed}
use Rattle.asm_eval.specs.Answer.{Ends, Answers}
use Rattle.asm_eval.specs.Work.{rooms}
use Rattle.asm_eval.specs.World.{world_in, reads_by, each_by, value_by, values_by, IsExactBy, AreExactBy, parameters_at}
use Rattle.asm_node.proofs.Closing.{tuples-length, length-at}
use Rattle.asm_node.proofs.Trees.{plain_kind-Get, plain_kind-Oper, nodes-item}
use Rattle.asm_eval.proofs.Evaluating.{passes, room-found, entered, entered-exact, less_work, exact-item, values_of-drop, values_of-step, guards-drop, guards-step, guards-first}
use Rattle.asm_eval.proofs.Worth.{reads-put, reads-tuple, reads-parameters, exact-put, exact-tuple, exact-parameters, closed-by, exact-by}
use Rattle.asm_eval.proofs.terms.+eval.Goals as goal

pub eval_term-returns-in_err-value-in-Within : goal.eval_term-returns-in_err-value-in-Within
eval_term-returns-in_err-value-in-Within g t c =
    let w = world_in (machine_of c.args.world.now.model.now) (g.S.Store.state c.args.world.now.store.now) c.args.world.now.input.now in
    let p = err_from_is_err_and c.from_residual.result c.from_residual.ensures.1 in
    rw (p.1, p.2) (subst (Ends c.in_err-value-in-Within.field-0.0) (sym (ap (value_by w c.args.left (places_of c.args.env.now)) (ap plain (sym c.deref.ensures) ∙ ap plain_kind c.in-Within.is))) (passes c.in_err-value-in-Within.field-0.0 (value_by w c.args.left (places_of c.args.env.now) (plain c.in-Within.term.value)) (λ v. Gives (within w.machine.signature.domains c.in-Within.domain v)) c.in_err-value-in-Within.ensures))

pub eval_term-returns-in_ok-value-in-Within : goal.eval_term-returns-in_ok-value-in-Within
eval_term-returns-in_ok-value-in-Within g t c =
    let w = world_in (machine_of c.args.world.now.model.now) (g.S.Store.state c.args.world.now.store.now) c.args.world.now.input.now in
    ap (value_by w c.args.left (places_of c.args.env.now)) (ap plain (sym c.deref.ensures) ∙ ap plain_kind c.in-Within.is) ∙ ap (λ o. and_then o (λ v. Gives (within w.machine.signature.domains c.in-Within.domain v))) c.in_ok-value-in-Within.ensures
    ∙ ap Gives (sym (c.within.ensures ∙ ap (λ ds. within ds c.in-Within.domain c.in_ok-value-in-Within.value) (c.domains.ensures.value ∙ ap (λ s. s.domains) c.signature.ensures)))

pub eval_term-eval_terms-requires : goal.eval_term-eval_terms-requires
eval_term-eval_terms-requires g t c =
    let w = world_in (machine_of c.args.world.now.model.now) (g.S.Store.state c.args.world.now.store.now) c.args.world.now.input.now in
    let few : nodes (plain c.args.term.now.value) ≡ 1 + nodes_all (plain_all c.slice.result.now) = ap nodes (ap plain (sym c.deref.ensures) ∙ ap plain_kind c.in-Get.is ∙ plain_kind-Get c.in-Get.function c.in-Get.arguments) ∙ ap (λ xs. 1 + nodes_all (plain_all xs)) (sym c.slice.ensures) in
    λ κs h. (omega arith, (h, subst (λ xs. AreExactBy w c.args.left (places_of c.args.env.now) (plain_all xs)) (sym c.slice.ensures) (subst (IsExactBy w c.args.left (places_of c.args.env.now)) (ap plain (sym c.deref.ensures) ∙ ap plain_kind c.in-Get.is ∙ plain_kind-Get c.in-Get.function c.in-Get.arguments) c.requires).0))

pub eval_term-returns-in_err-values-in-Get : goal.eval_term-returns-in_err-values-in-Get
eval_term-returns-in_err-values-in-Get g t c =
    let w = world_in (machine_of c.args.world.now.model.now) (g.S.Store.state c.args.world.now.store.now) c.args.world.now.input.now in
    let p = err_from_is_err_and c.from_residual-in_err-values-in-Get.result c.from_residual-in_err-values-in-Get.ensures.1 in
    rw (p.1, p.2) (subst (Ends c.in_err-values-in-Get.field-0.0) (sym (ap (value_by w c.args.left (places_of c.args.env.now)) (ap plain (sym c.deref.ensures) ∙ ap plain_kind c.in-Get.is ∙ plain_kind-Get c.in-Get.function c.in-Get.arguments) ∙ ap (λ xs. and_then (values_by w c.args.left (places_of c.args.env.now) (plain_all xs)) (λ vs. read w (calls_within w c.args.left) c.in-Get.function (slice_get w.machine.signature.functions c.in-Get.function) vs)) (sym c.slice.ensures))) (passes c.in_err-values-in-Get.field-0.0 (values_by w c.args.left (places_of c.args.env.now) (plain_all c.slice.result.now)) (λ vs. read w (calls_within w c.args.left) c.in-Get.function (slice_get w.machine.signature.functions c.in-Get.function) vs) c.in_err-values-in-Get.ensures))

pub eval_term-eval_terms-requires-in-Oper : goal.eval_term-eval_terms-requires-in-Oper
eval_term-eval_terms-requires-in-Oper g t c =
    let w = world_in (machine_of c.args.world.now.model.now) (g.S.Store.state c.args.world.now.store.now) c.args.world.now.input.now in
    let few : nodes (plain c.args.term.now.value) ≡ 1 + nodes_all (plain_all c.slice-in-Oper.result.now) = ap nodes (ap plain (sym c.deref.ensures) ∙ ap plain_kind c.in-Oper.is ∙ plain_kind-Oper c.in-Oper.op c.in-Oper.arguments) ∙ ap (λ xs. 1 + nodes_all (plain_all xs)) (sym c.slice-in-Oper.ensures) in
    λ κs h. (omega arith, (h, subst (λ xs. AreExactBy w c.args.left (places_of c.args.env.now) (plain_all xs)) (sym c.slice-in-Oper.ensures) (subst (IsExactBy w c.args.left (places_of c.args.env.now)) (ap plain (sym c.deref.ensures) ∙ ap plain_kind c.in-Oper.is ∙ plain_kind-Oper c.in-Oper.op c.in-Oper.arguments) c.requires).0))

pub eval_term-returns-in_err-values-in-Oper : goal.eval_term-returns-in_err-values-in-Oper
eval_term-returns-in_err-values-in-Oper g t c =
    let w = world_in (machine_of c.args.world.now.model.now) (g.S.Store.state c.args.world.now.store.now) c.args.world.now.input.now in
    let p = err_from_is_err_and c.from_residual-in_err-values-in-Oper.result c.from_residual-in_err-values-in-Oper.ensures.1 in
    rw (p.1, p.2) (subst (Ends c.in_err-values-in-Oper.field-0.0) (sym (ap (value_by w c.args.left (places_of c.args.env.now)) (ap plain (sym c.deref.ensures) ∙ ap plain_kind c.in-Oper.is ∙ plain_kind-Oper c.in-Oper.op c.in-Oper.arguments) ∙ ap (λ xs. and_then (values_by w c.args.left (places_of c.args.env.now) (plain_all xs)) (λ vs. Gives (result_of c.in-Oper.op vs))) (sym c.slice-in-Oper.ensures))) (passes c.in_err-values-in-Oper.field-0.0 (values_by w c.args.left (places_of c.args.env.now) (plain_all c.slice-in-Oper.result.now)) (λ vs. Gives (result_of c.in-Oper.op vs)) c.in_err-values-in-Oper.ensures))

pub eval_term-eval_read-requires : goal.eval_term-eval_read-requires
eval_term-eval_read-requires g t c =
    let w = world_in (machine_of c.args.world.now.model.now) (g.S.Store.state c.args.world.now.store.now) c.args.world.now.input.now in
    let few : nodes (plain c.args.term.now.value) ≡ 1 + nodes_all (plain_all c.in-Get.arguments) = ap nodes (ap plain (sym c.deref.ensures) ∙ ap plain_kind c.in-Get.is ∙ plain_kind-Get c.in-Get.function c.in-Get.arguments) in
    λ κs h. (omega arith, (h, subst (λ vs. IsOfCall w (exact_within w c.args.left) c.in-Get.function (slice_get w.machine.signature.functions c.in-Get.function) vs) (sym c.slice-in-Get.ensures) ((subst (IsExactBy w c.args.left (places_of c.args.env.now)) (ap plain (sym c.deref.ensures) ∙ ap plain_kind c.in-Get.is ∙ plain_kind-Get c.in-Get.function c.in-Get.arguments) c.requires).1 c.in_ok-values-in-Get.values (ap (λ xs. values_by w c.args.left (places_of c.args.env.now) (plain_all xs)) (sym c.slice.ensures) ∙ c.in_ok-values-in-Get.ensures))))

pub eval_term-apply-requires : goal.eval_term-apply-requires
eval_term-apply-requires g t c =
    let w = world_in (machine_of c.args.world.now.model.now) (g.S.Store.state c.args.world.now.store.now) c.args.world.now.input.now in
    subst (λ vs. IsSmall (result_of c.in-Oper.op vs)) (sym c.slice-in-Oper-2.ensures) ((subst (IsExactBy w c.args.left (places_of c.args.env.now)) (ap plain (sym c.deref.ensures) ∙ ap plain_kind c.in-Oper.is ∙ plain_kind-Oper c.in-Oper.op c.in-Oper.arguments) c.requires).1 c.in_ok-values-in-Oper.values (ap (λ xs. values_by w c.args.left (places_of c.args.env.now) (plain_all xs)) (sym c.slice-in-Oper.ensures) ∙ c.in_ok-values-in-Oper.ensures))

pub eval_term-returns-in_ok-values-in-Get : goal.eval_term-returns-in_ok-values-in-Get
eval_term-returns-in_ok-values-in-Get g t c =
    let w = world_in (machine_of c.args.world.now.model.now) (g.S.Store.state c.args.world.now.store.now) c.args.world.now.input.now in
    let k : List Value → Outcome Value = λ vs. read w (calls_within w c.args.left) c.in-Get.function (slice_get w.machine.signature.functions c.in-Get.function) vs in
    subst (Answers (λ v. v) c.eval_read.result) (sym (ap (value_by w c.args.left (places_of c.args.env.now)) (ap plain (sym c.deref.ensures) ∙ ap plain_kind c.in-Get.is ∙ plain_kind-Get c.in-Get.function c.in-Get.arguments) ∙ ap (λ o. and_then o k) (ap (λ xs. values_by w c.args.left (places_of c.args.env.now) (plain_all xs)) (sym c.slice.ensures) ∙ c.in_ok-values-in-Get.ensures) ∙ ap k (sym c.slice-in-Get.ensures))) c.eval_read.ensures

pub eval_term-returns-in_ok-values-in-Oper : goal.eval_term-returns-in_ok-values-in-Oper
eval_term-returns-in_ok-values-in-Oper g t c =
    let w = world_in (machine_of c.args.world.now.model.now) (g.S.Store.state c.args.world.now.store.now) c.args.world.now.input.now in
    ap (value_by w c.args.left (places_of c.args.env.now)) (ap plain (sym c.deref.ensures) ∙ ap plain_kind c.in-Oper.is ∙ plain_kind-Oper c.in-Oper.op c.in-Oper.arguments) ∙ ap (λ o. and_then o (λ vs. Gives (result_of c.in-Oper.op vs))) (ap (λ xs. values_by w c.args.left (places_of c.args.env.now) (plain_all xs)) (sym c.slice-in-Oper.ensures) ∙ c.in_ok-values-in-Oper.ensures)
    ∙ ap (λ vs. Gives (result_of c.in-Oper.op vs)) (sym c.slice-in-Oper-2.ensures) ∙ ap Gives (sym c.apply.ensures)

pub eval_term-returns-in-Bool-true : goal.eval_term-returns-in-Bool-true
eval_term-returns-in-Bool-true g t c =
    let w = world_in (machine_of c.args.world.now.model.now) (g.S.Store.state c.args.world.now.store.now) c.args.world.now.input.now in
    let guard_is : value_by w c.args.left (places_of c.args.env.now) (plain c.in-Cond.guard.value) ≡ Gives (Bool true) = c.in_ok-eval_term-in-Cond.ensures ∙ ap Gives (c.in-Bool-true.is ∙ ap Bool c.in-Bool-true.field-0-test) in
    subst (Answers (λ v. v) c.eval_term-in-Bool-true.result) (sym (ap (value_by w c.args.left (places_of c.args.env.now)) (ap plain (sym c.deref.ensures) ∙ ap plain_kind c.in-Cond.is) ∙ ap (λ o. and_then o (λ v. branch v (value_by w c.args.left (places_of c.args.env.now) (plain c.in-Cond.then_part.value)) (value_by w c.args.left (places_of c.args.env.now) (plain c.in-Cond.else_part.value)) (Gives Undef))) guard_is)) c.eval_term-in-Bool-true.ensures

pub eval_term-returns-in-Bool-false : goal.eval_term-returns-in-Bool-false
eval_term-returns-in-Bool-false g t c =
    let w = world_in (machine_of c.args.world.now.model.now) (g.S.Store.state c.args.world.now.store.now) c.args.world.now.input.now in
    let guard_is : value_by w c.args.left (places_of c.args.env.now) (plain c.in-Cond.guard.value) ≡ Gives (Bool false) = c.in_ok-eval_term-in-Cond.ensures ∙ ap Gives (c.in-Bool-false.is ∙ ap Bool c.in-Bool-false.field-0-test) in
    subst (Answers (λ v. v) c.eval_term-in-Bool-false.result) (sym (ap (value_by w c.args.left (places_of c.args.env.now)) (ap plain (sym c.deref.ensures) ∙ ap plain_kind c.in-Cond.is) ∙ ap (λ o. and_then o (λ v. branch v (value_by w c.args.left (places_of c.args.env.now) (plain c.in-Cond.then_part.value)) (value_by w c.args.left (places_of c.args.env.now) (plain c.in-Cond.else_part.value)) (Gives Undef))) guard_is)) c.eval_term-in-Bool-false.ensures

pub eval_term-returns-in_err-value-in-Let : goal.eval_term-returns-in_err-value-in-Let
eval_term-returns-in_err-value-in-Let g t c =
    let w = world_in (machine_of c.args.world.now.model.now) (g.S.Store.state c.args.world.now.store.now) c.args.world.now.input.now in
    let p = err_from_is_err_and c.from_residual-in_err-value-in-Let.result c.from_residual-in_err-value-in-Let.ensures.1 in
    rw (p.1, p.2) (subst (Ends c.in_err-value-in-Let.field-0.0) (sym (ap (value_by w c.args.left (places_of c.args.env.now)) (ap plain (sym c.deref.ensures) ∙ ap plain_kind c.in-Let.is))) (passes c.in_err-value-in-Let.field-0.0 (value_by w c.args.left (places_of c.args.env.now) (plain c.in-Let.bound.value)) (λ v. value_of w (calls_within w c.args.left) (with_value c.in-Let.variable v (reads_by w c.args.left (places_of c.args.env.now))) (plain c.in-Let.body.value)) c.in_err-value-in-Let.ensures))

pub eval_term-eval_with-requires : goal.eval_term-eval_with-requires
eval_term-eval_with-requires g t c =
    let w = world_in (machine_of c.args.world.now.model.now) (g.S.Store.state c.args.world.now.store.now) c.args.world.now.input.now in
    let few : nodes (plain c.args.term.now.value) ≡ 1 + nodes (plain c.in-Let.bound.value) + nodes (plain c.in-Let.body.value) = ap nodes (ap plain (sym c.deref.ensures) ∙ ap plain_kind c.in-Let.is) in
    λ κs h. (omega arith, (h, exact-put w c.args.left c.in-Let.variable c.in_ok-value-in-Let.value (places_of c.args.env.now) (plain c.in-Let.body.value) ((subst (IsExactBy w c.args.left (places_of c.args.env.now)) (ap plain (sym c.deref.ensures) ∙ ap plain_kind c.in-Let.is) c.requires).1 c.in_ok-value-in-Let.value c.in_ok-value-in-Let.ensures)))

pub eval_term-returns-in_ok-value-in-Let : goal.eval_term-returns-in_ok-value-in-Let
eval_term-returns-in_ok-value-in-Let g t c =
    let w = world_in (machine_of c.args.world.now.model.now) (g.S.Store.state c.args.world.now.store.now) c.args.world.now.input.now in
    subst (Answers (λ v. v) c.eval_with.result)
    (sym (ap (value_by w c.args.left (places_of c.args.env.now)) (ap plain (sym c.deref.ensures) ∙ ap plain_kind c.in-Let.is) ∙ ap (λ o. and_then o (λ v. value_of w (calls_within w c.args.left) (with_value c.in-Let.variable v (reads_by w c.args.left (places_of c.args.env.now))) (plain c.in-Let.body.value))) c.in_ok-value-in-Let.ensures
    ∙ ap (λ r. value_of w (calls_within w c.args.left) r (plain c.in-Let.body.value)) (sym (reads-put w c.args.left c.in-Let.variable c.in_ok-value-in-Let.value (places_of c.args.env.now)))))
    c.eval_with.ensures

pub eval_term-eval_guards-requires : goal.eval_term-eval_guards-requires
eval_term-eval_guards-requires g t c =
    let w = world_in (machine_of c.args.world.now.model.now) (g.S.Store.state c.args.world.now.store.now) c.args.world.now.input.now in
    let few : nodes (plain c.args.term.now.value) ≡ 1 + length c.in-Quant.binders + nodes (plain c.in-Quant.guard.value) = ap nodes (ap plain (sym c.deref.ensures) ∙ ap plain_kind c.in-Quant.is) in
    let same : length c.slice-in-Quant.result.now ≡ length c.in-Quant.binders = ap length c.slice-in-Quant.ensures in
    λ κs h. (
      omega arith,
      (
        h,
        subst (λ bs. (vs : List Value) → Contains (tuples_of w.machine.signature bs) vs → IsExactBy w c.args.left (put_tuple bs vs (places_of c.args.env.now)) (plain c.in-Quant.guard.value)) (sym c.slice-in-Quant.ensures)
            (λ vs at. exact-tuple w c.args.left c.in-Quant.binders vs (places_of c.args.env.now) (plain c.in-Quant.guard.value) (length-at (length c.in-Quant.binders) (tuples_of w.machine.signature c.in-Quant.binders) vs (tuples-length w c.in-Quant.binders) at) ((subst (IsExactBy w c.args.left (places_of c.args.env.now)) (ap plain (sym c.deref.ensures) ∙ ap plain_kind c.in-Quant.is) c.requires) vs at)),
      ),
    )

pub eval_term-returns-in_err-values-in-Quant : goal.eval_term-returns-in_err-values-in-Quant
eval_term-returns-in_err-values-in-Quant g t c =
    let w = world_in (machine_of c.args.world.now.model.now) (g.S.Store.state c.args.world.now.store.now) c.args.world.now.input.now in
    let p = err_from_is_err_and c.from_residual-in_err-values-in-Quant.result c.from_residual-in_err-values-in-Quant.ensures.1 in
    rw (p.1, p.2) (subst (Ends c.in_err-values-in-Quant.field-0.0) (sym (ap (value_by w c.args.left (places_of c.args.env.now)) (ap plain (sym c.deref.ensures) ∙ ap plain_kind c.in-Quant.is) ∙ (λ i. and_then (guard_values (λ vs. value_of w (calls_within w c.args.left) (sym (reads-tuple w c.args.left c.in-Quant.binders vs (places_of c.args.env.now)) i) (plain c.in-Quant.guard.value)) (tuples_of w.machine.signature c.in-Quant.binders)) (λ vs. Gives (quantified c.in-Quant.quantifier vs)))
    ∙ ap (λ bs. and_then (guard_values (λ vs. value_by w c.args.left (put_tuple bs vs (places_of c.args.env.now)) (plain c.in-Quant.guard.value)) (tuples_of w.machine.signature bs)) (λ vs. Gives (quantified c.in-Quant.quantifier vs))) (sym c.slice-in-Quant.ensures)))
    (passes c.in_err-values-in-Quant.field-0.0 (guard_values (λ vs. value_by w c.args.left (put_tuple c.slice-in-Quant.result.now vs (places_of c.args.env.now)) (plain c.in-Quant.guard.value)) (tuples_of w.machine.signature c.slice-in-Quant.result.now)) (λ vs. Gives (quantified c.in-Quant.quantifier vs)) c.in_err-values-in-Quant.ensures))

pub eval_term-returns-in_ok-values-in-Quant : goal.eval_term-returns-in_ok-values-in-Quant
eval_term-returns-in_ok-values-in-Quant g t c =
    let w = world_in (machine_of c.args.world.now.model.now) (g.S.Store.state c.args.world.now.store.now) c.args.world.now.input.now in
    (ap (value_by w c.args.left (places_of c.args.env.now)) (ap plain (sym c.deref.ensures) ∙ ap plain_kind c.in-Quant.is) ∙ (λ i. and_then (guard_values (λ vs. value_of w (calls_within w c.args.left) (sym (reads-tuple w c.args.left c.in-Quant.binders vs (places_of c.args.env.now)) i) (plain c.in-Quant.guard.value)) (tuples_of w.machine.signature c.in-Quant.binders)) (λ vs. Gives (quantified c.in-Quant.quantifier vs)))
    ∙ ap (λ bs. and_then (guard_values (λ vs. value_by w c.args.left (put_tuple bs vs (places_of c.args.env.now)) (plain c.in-Quant.guard.value)) (tuples_of w.machine.signature bs)) (λ vs. Gives (quantified c.in-Quant.quantifier vs))) (sym c.slice-in-Quant.ensures)) ∙ ap (λ o. and_then o (λ vs. Gives (quantified c.in-Quant.quantifier vs))) c.in_ok-values-in-Quant.ensures
    ∙ ap (λ vs. Gives (quantified c.in-Quant.quantifier vs)) (sym c.slice-in-Quant-2.ensures) ∙ ap Gives (sym c.quantified.ensures)

pub eval_terms-eval_term-requires : goal.eval_terms-eval_term-requires
eval_terms-eval_term-requires g t c =
    let w = world_in (machine_of c.args.world.now.model.now) (g.S.Store.state c.args.world.now.store.now) c.args.world.now.input.now in
    let few = nodes-item c.args.terms.now c.loop-term.term-index c.term-item.result c.loop-term-test.true c.term-item.is in
    λ κs h. (omega arith, (h, exact-item w (calls_within w c.args.left) (exact_within w c.args.left) (reads_by w c.args.left (places_of c.args.env.now)) (each_by w c.args.left (places_of c.args.env.now)) c.args.terms.now c.loop-term.term-index c.term-item.result c.loop-term-test.true c.term-item.is c.requires))

pub eval_terms-returns-in_err-value : goal.eval_terms-returns-in_err-value
eval_terms-returns-in_err-value g t c =
    let w = world_in (machine_of c.args.world.now.model.now) (g.S.Store.state c.args.world.now.store.now) c.args.world.now.input.now in
    let p = err_from_is_err_and c.from_residual.result c.from_residual.ensures.1 in
    let k : Value → Outcome (List Value) = λ v. and_then (values_by w c.args.left (places_of c.args.env.now) (plain_all (drop (c.loop-term.term-index + 1) c.args.terms.now))) (λ vs. Gives (v ∷ vs)) in
    rw (p.1, p.2) (subst (Ends c.in_err-value.field-0.0) (sym (c.loop-term.invariant ∙ ap (λ o. and_then o (λ vs. Gives (c.loop-term.values ++ vs))) (values_of-drop w (calls_within w c.args.left) (reads_by w c.args.left (places_of c.args.env.now)) c.args.terms.now c.loop-term.term-index c.term-item.result c.loop-term-test.true c.term-item.is)))
    (passes c.in_err-value.field-0.0 (and_then (value_by w c.args.left (places_of c.args.env.now) (plain c.term-item.result.value)) k) (λ vs. Gives (c.loop-term.values ++ vs)) (passes c.in_err-value.field-0.0 (value_by w c.args.left (places_of c.args.env.now) (plain c.term-item.result.value)) k c.in_err-value.ensures)))

pub eval_terms-loop-term-preserved : goal.eval_terms-loop-term-preserved
eval_terms-loop-term-preserved g t c =
    let w = world_in (machine_of c.args.world.now.model.now) (g.S.Store.state c.args.world.now.store.now) c.args.world.now.input.now in
    values_of-step w (calls_within w c.args.left) (reads_by w c.args.left (places_of c.args.env.now)) c.args.terms.now c.loop-term.term-index c.term-item.result c.in_ok-value.value c.loop-term.values c.push.new.values (values_by w c.args.left (places_of c.args.env.now) (plain_all c.args.terms.now))
    c.loop-term-test.true c.term-item.is c.in_ok-value.ensures c.in_ok-push.ensures c.loop-term.invariant

pub eval_guards-loop-tuple-init : goal.eval_guards-loop-tuple-init
eval_guards-loop-tuple-init g t c =
    let w = world_in (machine_of c.args.world.now.model.now) (g.S.Store.state c.args.world.now.store.now) c.args.world.now.input.now in
    let guard : List Value → Outcome Value = λ vs. value_by w c.args.left (put_tuple c.args.binders.now vs (places_of c.args.env.now)) (plain c.args.guard.now.value) in
    guards-first guard (tuples_of w.machine.signature c.args.binders.now) c.slice-tuple-items.result.now c.new-values.result (c.slice-tuple-items.ensures ∙ c.in_ok-tuples.ensures ∙ ap (λ s. tuples_of s c.args.binders.now) c.signature.ensures) c.new-values.ensures

pub eval_guards-eval_at-requires : goal.eval_guards-eval_at-requires
eval_guards-eval_at-requires g t c =
    let w = world_in (machine_of c.args.world.now.model.now) (g.S.Store.state c.args.world.now.store.now) c.args.world.now.input.now in
    λ κs h. (
      omega arith,
      (
        h,
        subst (λ vs. IsExactBy w c.args.left (put_tuple c.args.binders.now vs (places_of c.args.env.now)) (plain c.args.guard.now.value)) (sym c.slice.ensures)
            (c.requires c.tuple-item.result (subst (λ ts. Contains ts c.tuple-item.result) (c.slice-tuple-items.ensures ∙ c.in_ok-tuples.ensures ∙ ap (λ s. tuples_of s c.args.binders.now) c.signature.ensures) (c.loop-tuple.tuple-index, c.loop-tuple-test.true, sym c.tuple-item.is))),
      ),
    )

pub eval_guards-returns-in_err-value : goal.eval_guards-returns-in_err-value
eval_guards-returns-in_err-value g t c =
    let w = world_in (machine_of c.args.world.now.model.now) (g.S.Store.state c.args.world.now.store.now) c.args.world.now.input.now in
    let guard : List Value → Outcome Value = λ vs. value_by w c.args.left (put_tuple c.args.binders.now vs (places_of c.args.env.now)) (plain c.args.guard.now.value) in
    let p = err_from_is_err_and c.from_residual-in_err-value.result c.from_residual-in_err-value.ensures.1 in
    let k : Value → Outcome (List Value) = λ v. and_then (guard_values guard (drop (c.loop-tuple.tuple-index + 1) c.slice-tuple-items.result.now)) (λ vs. Gives (v ∷ vs)) in
    rw (p.1, p.2) (subst (Ends c.in_err-value.field-0.0) (sym (c.loop-tuple.invariant ∙ ap (λ o. and_then o (λ vs. Gives (c.loop-tuple.values ++ vs))) (guards-drop guard c.slice-tuple-items.result.now c.loop-tuple.tuple-index c.tuple-item.result c.loop-tuple-test.true c.tuple-item.is)))
    (passes c.in_err-value.field-0.0 (and_then (guard c.tuple-item.result) k) (λ vs. Gives (c.loop-tuple.values ++ vs)) (passes c.in_err-value.field-0.0 (guard c.tuple-item.result) k (subst (λ vs. Ends c.in_err-value.field-0.0 (guard vs)) c.slice.ensures c.in_err-value.ensures))))

pub eval_guards-loop-tuple-preserved : goal.eval_guards-loop-tuple-preserved
eval_guards-loop-tuple-preserved g t c =
    let w = world_in (machine_of c.args.world.now.model.now) (g.S.Store.state c.args.world.now.store.now) c.args.world.now.input.now in
    let guard : List Value → Outcome Value = λ vs. value_by w c.args.left (put_tuple c.args.binders.now vs (places_of c.args.env.now)) (plain c.args.guard.now.value) in
    guards-step guard c.slice-tuple-items.result.now c.loop-tuple.tuple-index c.tuple-item.result c.in_ok-value.value c.loop-tuple.values c.push.new.values (guard_values guard (tuples_of w.machine.signature c.args.binders.now))
    c.loop-tuple-test.true c.tuple-item.is (ap guard (sym c.slice.ensures) ∙ c.in_ok-value.ensures) c.in_ok-push.ensures c.loop-tuple.invariant

pub eval_variable-eval_term-requires : goal.eval_variable-eval_term-requires
eval_variable-eval_term-requires g t c =
    let w = world_in (machine_of c.args.world.now.model.now) (g.S.Store.state c.args.world.now.store.now) c.args.world.now.input.now in
    let less : 2 + 4 * nodes (plain c.in-Node.term.value) ≤ weight_of c.args.env.now = (subst (IsLighter (weight_of c.args.env.now)) c.in-Node.is c.in_ok-find.ensures.lighter) in
    let none : weight_of c.new-empty.result ≡ 0 = c.new-empty.ensures.weight in
    λ κs h. (
      omega arith,
      (
        h,
        subst (λ e. IsExactBy w c.args.left e (plain c.in-Node.term.value)) (sym c.new-empty.ensures.places)
            (exact-by w c.args.left nowhere (λ y any. refl) (plain c.in-Node.term.value) (subst (IsExactIn w (calls_within w c.args.left) (exact_within w c.args.left) unbound nothing) (subst (λ b. Holds b (places_of c.args.env.now c.args.variable)) c.in-Node.is c.in_ok-find.ensures.holds) c.requires)),
      ),
    )

pub eval_variable-returns-in-Node : goal.eval_variable-returns-in-Node
eval_variable-returns-in-Node g t c =
    let w = world_in (machine_of c.args.world.now.model.now) (g.S.Store.state c.args.world.now.store.now) c.args.world.now.input.now in
    subst (Answers (λ v. v) c.eval_term.result)
    (sym (ap (value_of w (calls_within w c.args.left) unbound) (subst (λ b. Holds b (places_of c.args.env.now c.args.variable)) c.in-Node.is c.in_ok-find.ensures.holds) ∙ closed-by w c.args.left nowhere (λ y any. refl) (plain c.in-Node.term.value) ∙ ap (λ e. value_by w c.args.left e (plain c.in-Node.term.value)) (sym c.new-empty.ensures.places)))
    c.eval_term.ensures

pub eval_variable-eval_term-requires-in-Actual : goal.eval_variable-eval_term-requires-in-Actual
eval_variable-eval_term-requires-in-Actual g t c =
    let w = world_in (machine_of c.args.world.now.model.now) (g.S.Store.state c.args.world.now.store.now) c.args.world.now.input.now in
    let less : 2 + 4 * nodes (plain c.in-Actual.term.value) + weight_of c.in-Actual.caller ≤ weight_of c.args.env.now = (subst (IsLighter (weight_of c.args.env.now)) c.in-Actual.is c.in_ok-find.ensures.lighter) in
    λ κs h. (omega arith, (h, exact-by w c.args.left (places_of c.in-Actual.caller) (places-closed c.in-Actual.caller.entries) (plain c.in-Actual.term.value) (subst (IsExactIn w (calls_within w c.args.left) (exact_within w c.args.left) unbound nothing) (subst (λ b. Holds b (places_of c.args.env.now c.args.variable)) c.in-Actual.is c.in_ok-find.ensures.holds) c.requires)))

pub eval_variable-returns-in_err-value-in-Actual : goal.eval_variable-returns-in_err-value-in-Actual
eval_variable-returns-in_err-value-in-Actual g t c =
    let w = world_in (machine_of c.args.world.now.model.now) (g.S.Store.state c.args.world.now.store.now) c.args.world.now.input.now in
    let p = err_from_is_err_and c.from_residual-in_err-value-in-Actual.result c.from_residual-in_err-value-in-Actual.ensures.1 in
    rw (p.1, p.2) (subst (Ends c.in_err-value-in-Actual.field-0.0) (sym (ap (value_of w (calls_within w c.args.left) unbound) (subst (λ b. Holds b (places_of c.args.env.now c.args.variable)) c.in-Actual.is c.in_ok-find.ensures.holds) ∙ ap (λ o. and_then o (λ v. Gives (within w.machine.signature.domains c.in-Actual.domain v))) (closed-by w c.args.left (places_of c.in-Actual.caller) (places-closed c.in-Actual.caller.entries) (plain c.in-Actual.term.value)))) (passes c.in_err-value-in-Actual.field-0.0 (value_by w c.args.left (places_of c.in-Actual.caller) (plain c.in-Actual.term.value)) (λ v. Gives (within w.machine.signature.domains c.in-Actual.domain v)) c.in_err-value-in-Actual.ensures))

pub eval_variable-returns-in_ok-value-in-Actual : goal.eval_variable-returns-in_ok-value-in-Actual
eval_variable-returns-in_ok-value-in-Actual g t c =
    let w = world_in (machine_of c.args.world.now.model.now) (g.S.Store.state c.args.world.now.store.now) c.args.world.now.input.now in
    (ap (value_of w (calls_within w c.args.left) unbound) (subst (λ b. Holds b (places_of c.args.env.now c.args.variable)) c.in-Actual.is c.in_ok-find.ensures.holds) ∙ ap (λ o. and_then o (λ v. Gives (within w.machine.signature.domains c.in-Actual.domain v))) (closed-by w c.args.left (places_of c.in-Actual.caller) (places-closed c.in-Actual.caller.entries) (plain c.in-Actual.term.value))) ∙ ap (λ o. and_then o (λ v. Gives (within w.machine.signature.domains c.in-Actual.domain v))) c.in_ok-value-in-Actual.ensures
    ∙ ap Gives (sym (c.within.ensures ∙ ap (λ ds. within ds c.in-Actual.domain c.in_ok-value-in-Actual.value) (c.domains.ensures.value ∙ ap (λ s. s.domains) c.signature.ensures)))

pub eval_call-eval_term-requires : goal.eval_call-eval_term-requires
eval_call-eval_term-requires g t c =
    let w = world_in (machine_of c.args.world.now.model.now) (g.S.Store.state c.args.world.now.store.now) c.args.world.now.input.now in
    let few : 8 + 8 * nodes (plain c.in-Some.definition.now.term.value) + 2 * length c.in-Some.definition.now.variables ≤ rooms w.machine.definitions = room-found w.machine.definitions c.args.number (defined_by c.in-Some.definition.now) c.in-Some.ensures in
    let same : length c.slice.result.now ≡ length c.in-Some.definition.now.variables = ap length c.slice.ensures in
    let weighs : weight_of c.in_ok-env-in-Some.env ≤ length c.slice.result.now = c.in_ok-env-in-Some.ensures.weight in
    let less = less_work c.args.left (rooms w.machine.definitions) (8 * nodes (plain c.in-Some.definition.now.term.value) + 2 * weight_of c.in_ok-env-in-Some.env + 1) 2 (omega arith) (omega arith) in
    λ κs h. (
      omega arith,
      (
        h,
        subst (λ e. IsExactBy w (c.args.left - 1) e (plain c.in-Some.definition.now.term.value)) (sym (c.in_ok-env-in-Some.ensures.places ∙ ap (λ xs. parameters_at xs c.args.values.now) c.slice.ensures))
            (exact-parameters w (c.args.left - 1) c.in-Some.definition.now.variables c.args.values.now (plain c.in-Some.definition.now.term.value) (entered-exact w c.args.left c.args.number c.args.values.now (defined_by c.in-Some.definition.now) (let some : 0 < c.args.left = omega arith in some) c.in-Some.ensures c.requires.exact)),
      ),
    )

pub eval_call-returns-in_err-value-in-Some : goal.eval_call-returns-in_err-value-in-Some
eval_call-returns-in_err-value-in-Some g t c =
    let w = world_in (machine_of c.args.world.now.model.now) (g.S.Store.state c.args.world.now.store.now) c.args.world.now.input.now in
    let p = err_from_is_err_and c.from_residual-in_err-value-in-Some.result c.from_residual-in_err-value-in-Some.ensures.1 in
    rw (p.1, p.2) (subst (Ends c.in_err-value-in-Some.field-0.0) (sym (entered w c.args.left c.args.number c.args.values.now c.args.function.now (defined_by c.in-Some.definition.now) (let some : 0 < c.args.left = omega arith in some) c.requires.function c.in-Some.ensures
    ∙ ap (λ r. and_then (value_of w (calls_within w (c.args.left - 1)) r (plain c.in-Some.definition.now.term.value)) (λ v. Gives (within w.machine.signature.domains c.args.function.now.codomain v))) (sym (reads-parameters w (c.args.left - 1) c.in-Some.definition.now.variables c.args.values.now))
    ∙ ap (λ e. and_then (value_by w (c.args.left - 1) e (plain c.in-Some.definition.now.term.value)) (λ v. Gives (within w.machine.signature.domains c.args.function.now.codomain v))) (sym (c.in_ok-env-in-Some.ensures.places ∙ ap (λ xs. parameters_at xs c.args.values.now) c.slice.ensures))))
    (passes c.in_err-value-in-Some.field-0.0 (value_by w (c.args.left - 1) (places_of c.in_ok-env-in-Some.env) (plain c.in-Some.definition.now.term.value)) (λ v. Gives (within w.machine.signature.domains c.args.function.now.codomain v)) c.in_err-value-in-Some.ensures))

pub eval_call-returns-in_ok-value-in-Some : goal.eval_call-returns-in_ok-value-in-Some
eval_call-returns-in_ok-value-in-Some g t c =
    let w = world_in (machine_of c.args.world.now.model.now) (g.S.Store.state c.args.world.now.store.now) c.args.world.now.input.now in
    (entered w c.args.left c.args.number c.args.values.now c.args.function.now (defined_by c.in-Some.definition.now) (let some : 0 < c.args.left = omega arith in some) c.requires.function c.in-Some.ensures
    ∙ ap (λ r. and_then (value_of w (calls_within w (c.args.left - 1)) r (plain c.in-Some.definition.now.term.value)) (λ v. Gives (within w.machine.signature.domains c.args.function.now.codomain v))) (sym (reads-parameters w (c.args.left - 1) c.in-Some.definition.now.variables c.args.values.now))
    ∙ ap (λ e. and_then (value_by w (c.args.left - 1) e (plain c.in-Some.definition.now.term.value)) (λ v. Gives (within w.machine.signature.domains c.args.function.now.codomain v))) (sym (c.in_ok-env-in-Some.ensures.places ∙ ap (λ xs. parameters_at xs c.args.values.now) c.slice.ensures))) ∙ ap (λ o. and_then o (λ v. Gives (within w.machine.signature.domains c.args.function.now.codomain v))) c.in_ok-value-in-Some.ensures
    ∙ ap Gives (sym (c.within.ensures ∙ ap (λ ds. within ds c.args.function.now.codomain c.in_ok-value-in-Some.value) (c.domains.ensures.value ∙ ap (λ s. s.domains) c.signature.ensures)))
