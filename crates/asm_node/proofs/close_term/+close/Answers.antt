use Rattle.std.proofs.Common.{◌≡◌, ◌+◌, [], ◌∷◌, ◌++◌, map, take, All, if◌then◌else◌, sym, ap, subst, ◌∙◌, arith}
use Rattle.std.proofs.lemmas.List.{take_more}
use Rattle.std.specs.declared.rc.Rc.{Rc}
use Rattle.std.specs.declared.alloc.Global.{Global}
use Rattle.asm_node.specs.declared.term.Binder.{Binder}
use Rattle.asm_node.specs.declared.term.Term.{Term}
use Rattle.asm_node.specs.Env.{places_of, Holds}
use Rattle.asm_node.specs.Pool.{terms_of, HasTerm, IsNode}
use Rattle.asm_node.specs.Stays.{stays}
use Rattle.asm_node.specs.Term.{close, close_all}
use Rattle.asm_node.specs.Tree.{Var, Get, Oper, Within, plain, plain_kind, plain_all}
use Rattle.asm_node.specs.Weight.{nodes, nodes_all}
use Rattle.asm_node.proofs.Growing.{grown_on, term_stays, nodes_push, children-Get, children-Oper}
use Rattle.asm_node.proofs.Staying.{stays-keep}
use Rattle.asm_node.proofs.Trees.{plain_kind-Get, plain_kind-Oper, nodes-item, closes-push}
use Rattle.asm_node.proofs.close_term.+close.Goals as goal

pub close_below-returns-clause-node : goal.close_below-returns-clause-node
close_below-returns-clause-node t c =
    subst (λ e. IsNode c.close_in.new.pool c.in_ok-close_in.field-0.value (close e (plain c.args.term.now.value)))
    (ap (λ xs. stays xs (places_of c.args.env.now)) (c.slice.ensures ∙ c.in_ok-bind.ensures ∙ ap (λ xs. xs ++ map (λ (b : Binder). b.variable) c.args.binders.now) c.in_ok-inner.ensures)
    ∙ sym (stays-keep c.args.binders.now c.args.bound.now (places_of c.args.env.now)))
    c.in_ok-close_in.ensures.node

pub close_each-close_in-requires : goal.close_each-close_in-requires
close_each-close_in-requires t c =
    let few = nodes-item c.args.terms.now c.loop-term.term-index c.term-item.result c.loop-term-test.true c.term-item.is in
    (omega arith, tt)

pub close_each-loop-term-preserved : goal.close_each-loop-term-preserved
close_each-loop-term-preserved t c =
    let e = stays c.args.bound.now (places_of c.args.env.now) in
    let i = c.loop-term.term-index in
    record {
      nodes = subst (All (λ (t : Rc Term Global). HasTerm (terms_of c.close_in.new.pool) t.value)) (sym c.in_ok-push.ensures.ok)
          (nodes_push c.loop-term.closed c.in_ok-one.one c.in_ok-one.ensures.pool c.loop-term.invariant.nodes c.in_ok-one.ensures.node.is_of_pool);
      terms = ap plain_all c.in_ok-push.ensures.ok
          ∙ closes-push e c.loop-term.closed (take i c.args.terms.now) c.in_ok-one.one c.term-item.result c.loop-term.invariant.terms c.in_ok-one.ensures.node.is_tree
          ∙ ap (λ xs. close_all e (plain_all xs)) (ap (λ y. take i c.args.terms.now ++ y ∷ []) c.term-item.is ∙ sym (take_more c.args.terms.now i c.term-item.result c.loop-term-test.true));
      grown = grown_on c.loop-term.invariant.grown c.in_ok-one.ensures.pool;
    }

pub close_in-close_each-requires : goal.close_in-close_each-requires
close_in-close_each-requires t c =
    let few : nodes (plain c.args.term.now.value) ≡ 1 + nodes_all (plain_all c.slice.result.now) = ap nodes (ap plain (sym c.deref.ensures) ∙ ap plain_kind c.in-Get.is ∙ plain_kind-Get c.in-Get.function c.in-Get.arguments) ∙ ap (λ xs. 1 + nodes_all (plain_all xs)) (sym c.slice.ensures) in
    (omega arith, tt)

pub close_in-make-requires-in-Get : goal.close_in-make-requires-in-Get
close_in-make-requires-in-Get t c = children-Get _ c.in-Get.function c.in_ok-arguments-in-Get.arguments c.in_ok-arguments-in-Get.ensures.nodes

pub close_in-close_each-requires-in-Oper : goal.close_in-close_each-requires-in-Oper
close_in-close_each-requires-in-Oper t c =
    let few : nodes (plain c.args.term.now.value) ≡ 1 + nodes_all (plain_all c.slice-in-Oper.result.now) = ap nodes (ap plain (sym c.deref.ensures) ∙ ap plain_kind c.in-Oper.is ∙ plain_kind-Oper c.in-Oper.op c.in-Oper.arguments) ∙ ap (λ xs. 1 + nodes_all (plain_all xs)) (sym c.slice-in-Oper.ensures) in
    (omega arith, tt)

pub close_in-make-requires-in-Oper : goal.close_in-make-requires-in-Oper
close_in-make-requires-in-Oper t c = children-Oper _ c.in-Oper.op c.in_ok-arguments-in-Oper.arguments c.in_ok-arguments-in-Oper.ensures.nodes

pub close_in-make-requires-in-Cond : goal.close_in-make-requires-in-Cond
close_in-make-requires-in-Cond t c = (
  term_stays c.in_ok-guard-in-Cond.guard.value (grown_on c.in_ok-then_part-in-Cond.ensures.pool c.in_ok-else_part-in-Cond.ensures.pool) c.in_ok-guard-in-Cond.ensures.node.is_of_pool,
  term_stays c.in_ok-then_part-in-Cond.then_part.value c.in_ok-else_part-in-Cond.ensures.pool c.in_ok-then_part-in-Cond.ensures.node.is_of_pool,
  c.in_ok-else_part-in-Cond.ensures.node.is_of_pool,
)

pub close_in-make-requires-in-Let : goal.close_in-make-requires-in-Let
close_in-make-requires-in-Let t c = (
  term_stays c.in_ok-term-in-Let.term.value c.in_ok-body-in-Let.ensures.pool c.in_ok-term-in-Let.ensures.node.is_of_pool,
  c.in_ok-body-in-Let.ensures.node.is_of_pool,
)

pub close_in-returns-in_ok-make-in-Get-clause-node : goal.close_in-returns-in_ok-make-in-Get-clause-node
close_in-returns-in_ok-make-in-Get-clause-node t c =
    let e = stays c.args.bound.now (places_of c.args.env.now) in
    record {
      is_of_pool = c.in_ok-make-in-Get.ensures.node.is_of_pool;
      is_tree = c.in_ok-make-in-Get.ensures.node.is_tree ∙ plain_kind-Get c.in-Get.function c.in_ok-arguments-in-Get.arguments
          ∙ ap (Get c.in-Get.function) (c.in_ok-arguments-in-Get.ensures.terms ∙ ap (λ xs. close_all e (plain_all xs)) c.slice.ensures)
          ∙ sym (ap (close e) (ap plain (sym c.deref.ensures) ∙ ap plain_kind c.in-Get.is ∙ plain_kind-Get c.in-Get.function c.in-Get.arguments));
    }

pub close_in-returns-in_ok-make-in-Oper-clause-node : goal.close_in-returns-in_ok-make-in-Oper-clause-node
close_in-returns-in_ok-make-in-Oper-clause-node t c =
    let e = stays c.args.bound.now (places_of c.args.env.now) in
    record {
      is_of_pool = c.in_ok-make-in-Oper.ensures.node.is_of_pool;
      is_tree = c.in_ok-make-in-Oper.ensures.node.is_tree ∙ plain_kind-Oper c.in-Oper.op c.in_ok-arguments-in-Oper.arguments
          ∙ ap (Oper c.in-Oper.op) (c.in_ok-arguments-in-Oper.ensures.terms ∙ ap (λ xs. close_all e (plain_all xs)) c.slice-in-Oper.ensures)
          ∙ sym (ap (close e) (ap plain (sym c.deref.ensures) ∙ ap plain_kind c.in-Oper.is ∙ plain_kind-Oper c.in-Oper.op c.in-Oper.arguments));
    }

pub close_variable-returns-in_ok-make-in-Actual-clause-node : goal.close_variable-returns-in_ok-make-in-Actual-clause-node
close_variable-returns-in_ok-make-in-Actual-clause-node t c =
    let held : places_of c.args.env.now c.args.variable ≡ Within c.in-Actual.domain (close (places_of c.in-Actual.caller) (plain c.in-Actual.term.value)) = subst (λ b. Holds b (places_of c.args.env.now c.args.variable)) c.in-Actual.is c.in_ok-find.ensures.holds in
    let free = sym c.is_bound.ensures ∙ c.if-is_bound.false in
    record {
      is_of_pool = c.in_ok-make-in-Actual.ensures.node.is_of_pool;
      is_tree = c.in_ok-make-in-Actual.ensures.node.is_tree ∙ ap (Within c.in-Actual.domain) c.in_ok-inner-in-Actual.ensures.node.is_tree ∙ sym held
          ∙ sym (ap (λ b. if b then Var c.args.variable else places_of c.args.env.now c.args.variable) free);
    }
