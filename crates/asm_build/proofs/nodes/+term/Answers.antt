use Rattle.std.proofs.Common.{◌≡◌, ℕ, suc, ◌+◌, List, [], ◌∷◌, ◌++◌, map, take, length, refl, sym, ap, ◌∙◌}
use Rattle.std.proofs.lemmas.List.{take_more}
use Rattle.asm_node.specs.declared.operator.Op.{Op}
use Rattle.asm_node.specs.declared.operator.Quantifier.{Quantifier}
use Rattle.asm_node.specs.declared.term.Binder.{Binder}
use Rattle.asm_node.specs.Tree as tree
use Rattle.asm_node.specs.Tree.{Tree, plain, plain_all}
use Rattle.asm_node.proofs.Growing.{children-Get}
use Rattle.asm_node.proofs.Trees.{plain_kind-Get}
use Rattle.asm_tree.specs.declared.term.RawTerm.{RawTerm}
use Rattle.asm_tree.specs.declared.term.RawCase.{RawCase}
use Rattle.asm_tree.specs.declared.term.RawBind.{RawBind}
use Rattle.asm_faults.specs.Model.{tree_of, trees_of, function_number, binders_of}
use Rattle.asm_build.specs.Made.{plains}
use Rattle.asm_build.specs.Forms.{cases_from, bounds_from}
use Rattle.asm_build.proofs.Growing.{same_maker, grown_on, agrees_back, terms_stay, same_tree, made_terms, made_numbers, pushed_term, pushed_number, took_all, length_push, no_terms, no_numbers, same_trees, same_numbers, mapped_more}
use Rattle.asm_build.proofs.TreeForms as forms
use Rattle.asm_build.proofs.TreeForms.{all_plain}
use Rattle.asm_build.proofs.nodes.+term.Goals as goal

-- ---- arguments

pub call-make-requires : goal.call-make-requires
call-make-requires t c = children-Get _ c.function_number-function.result c.in_ok-arguments.arguments c.in_ok-arguments.ensures.made.are_of_pool

pub call-returns-clause-made : goal.call-returns-clause-made
call-returns-clause-made t c = same_tree _ _ (λ number agrees.
    plain_kind-Get c.function_number-function.result c.in_ok-arguments.arguments
    ∙ ap (λ (f : ℕ). tree.Get f (plain_all c.in_ok-arguments.arguments)) (c.function_number-function.ensures number)
    ∙ ap (tree.Get (function_number number c.args.known.now c.args.name.now)) (all_plain number c.args.known.now c.in_ok-arguments.arguments
    ∙ ap (trees_of number c.args.known.now) (c.in_ok-arguments.ensures.made.are_trees number (agrees_back number c.in_ok-make.ensures.grown agrees)))) c.in_ok-make.ensures.made

pub terms-raws-init : goal.terms-raws-init
terms-raws-init t c = record { made = no_terms c.args.maker.now _ _ c.new-made.ensures (λ number. refl); grown = same_maker c.args.maker.now }

pub terms-raws-preserved : goal.terms-raws-preserved
terms-raws-preserved t c =
    let i : ℕ = c.raws.raw-index in
    let more : take (i + 1) c.args.raws.now ≡ take i c.args.raws.now ++ c.raw-item.result ∷ [] = take_more c.args.raws.now i c.raw-item.result c.raws-test.true ∙ ap (λ (y : RawTerm). take i c.args.raws.now ++ y ∷ []) (sym c.raw-item.is) in
    record {
      made = same_trees _ _ (c.raws.made ++ c.in_ok-one.one ∷ []) _ c.in_ok-push.ensures.ok (λ number. mapped_more (tree_of number c.args.known.now) c.args.raws.now i c.raw-item.result more)
          (pushed_term _ _ c.raws.made c.in_ok-one.one c.in_ok-one.ensures.grown c.raws.invariant.made c.in_ok-one.ensures.made);
      grown = grown_on c.raws.invariant.grown c.in_ok-one.ensures.grown;
    }

pub terms-returns-clause-made : goal.terms-returns-clause-made
terms-returns-clause-made t c = same_trees _ _ c.raws.made c.raws.made refl (λ number. ap (map (tree_of number c.args.known.now)) (took_all c.args.raws.now c.raws.raw-index c.raws-test.false)) c.raws.invariant.made

pub terms-returns-clause-grown : goal.terms-returns-clause-grown
terms-returns-clause-grown t c = c.raws.invariant.grown

-- ---- cases

pub cases_of-items-init : goal.cases_of-items-init
cases_of-items-init t c = record {
  labels = no_terms c.args.maker.now _ _ c.new-labels.ensures (λ number. refl);
  values = no_terms c.args.maker.now _ _ c.new-values.ensures (λ number. refl);
  same = ap length c.new-labels.ensures ∙ sym (ap length c.new-values.ensures);
  grown = same_maker c.args.maker.now;
}

pub cases_of-items-preserved : goal.cases_of-items-preserved
cases_of-items-preserved t c =
    let i : ℕ = c.items.item-index in
    let more : take (i + 1) c.args.items.now ≡ take i c.args.items.now ++ c.item-item.result ∷ [] = take_more c.args.items.now i c.item-item.result c.items-test.true ∙ ap (λ (y : RawCase). take i c.args.items.now ++ y ∷ []) (sym c.item-item.is) in
    record {
      labels = same_trees _ _ (c.items.labels ++ c.in_ok-label.label ∷ []) _ c.in_ok-push.ensures.ok (λ number. mapped_more (λ (k : RawCase). tree_of number c.args.known.now k.label) c.args.items.now i c.item-item.result more)
          (made_terms c.in_ok-value.ensures.grown (pushed_term _ _ c.items.labels c.in_ok-label.label c.in_ok-label.ensures.grown c.items.invariant.labels c.in_ok-label.ensures.made));
      values = same_trees _ _ (c.items.values ++ c.in_ok-value.value ∷ []) _ c.in_ok-push-2.ensures.ok (λ number. mapped_more (λ (k : RawCase). tree_of number c.args.known.now k.value) c.args.items.now i c.item-item.result more)
          (pushed_term _ _ c.items.values c.in_ok-value.value (grown_on c.in_ok-label.ensures.grown c.in_ok-value.ensures.grown) c.items.invariant.values c.in_ok-value.ensures.made);
      same = ap length c.in_ok-push.ensures.ok ∙ length_push c.items.labels c.in_ok-label.label ∙ ap (λ (n : ℕ). suc n) c.items.invariant.same ∙ sym (ap length c.in_ok-push-2.ensures.ok ∙ length_push c.items.values c.in_ok-value.value);
      grown = grown_on c.items.invariant.grown (grown_on c.in_ok-label.ensures.grown c.in_ok-value.ensures.grown);
    }

pub cases_of-returns : goal.cases_of-returns
cases_of-returns t c =
    let all : take c.items.item-index c.args.items.now ≡ c.args.items.now = took_all c.args.items.now c.items.item-index c.items-test.false in
    record {
      labels = same_trees _ _ c.items.labels c.items.labels refl (λ number. ap (map (λ (k : RawCase). tree_of number c.args.known.now k.label)) all) c.items.invariant.labels;
      values = same_trees _ _ c.items.values c.items.values refl (λ number. ap (map (λ (k : RawCase). tree_of number c.args.known.now k.value)) all) c.items.invariant.values;
      same = c.items.invariant.same;
      grown = c.items.invariant.grown;
    }

-- ---- bounds

pub bounds_of-items-init : goal.bounds_of-items-init
bounds_of-items-init t c = record {
  variables = no_numbers c.args.maker.now _ _ c.new-variables.ensures (λ number. refl);
  terms = no_terms c.args.maker.now _ _ c.new-terms.ensures (λ number. refl);
  same = ap length c.new-variables.ensures ∙ sym (ap length c.new-terms.ensures);
  grown = same_maker c.args.maker.now;
}

pub bounds_of-items-preserved : goal.bounds_of-items-preserved
bounds_of-items-preserved t c =
    let i : ℕ = c.items.item-index in
    let more : take (i + 1) c.args.items.now ≡ take i c.args.items.now ++ c.item-item.result ∷ [] = take_more c.args.items.now i c.item-item.result c.items-test.true ∙ ap (λ (y : RawBind). take i c.args.items.now ++ y ∷ []) (sym c.item-item.is) in
    record {
      variables = same_numbers _ _ (c.items.variables ++ c.in_ok-variable.variable ∷ []) _ c.in_ok-push.ensures.ok (λ number. mapped_more (λ (b : RawBind). number b.variable.text) c.args.items.now i c.item-item.result more)
          (made_numbers c.in_ok-one.ensures.grown (pushed_number _ c.item-item.result.variable.text c.items.variables c.in_ok-variable.variable c.in_ok-variable.ensures.grown c.items.invariant.variables c.in_ok-variable.ensures.number));
      terms = same_trees _ _ (c.items.terms ++ c.in_ok-one.one ∷ []) _ c.in_ok-push-2.ensures.ok (λ number. mapped_more (λ (b : RawBind). tree_of number c.args.known.now b.term) c.args.items.now i c.item-item.result more)
          (pushed_term _ _ c.items.terms c.in_ok-one.one (grown_on c.in_ok-variable.ensures.grown c.in_ok-one.ensures.grown) c.items.invariant.terms c.in_ok-one.ensures.made);
      same = ap length c.in_ok-push.ensures.ok ∙ length_push c.items.variables c.in_ok-variable.variable ∙ ap (λ (n : ℕ). suc n) c.items.invariant.same ∙ sym (ap length c.in_ok-push-2.ensures.ok ∙ length_push c.items.terms c.in_ok-one.one);
      grown = grown_on c.items.invariant.grown (grown_on c.in_ok-variable.ensures.grown c.in_ok-one.ensures.grown);
    }

pub bounds_of-returns : goal.bounds_of-returns
bounds_of-returns t c =
    let all : take c.items.item-index c.args.items.now ≡ c.args.items.now = took_all c.args.items.now c.items.item-index c.items-test.false in
    record {
      variables = same_numbers _ _ c.items.variables c.items.variables refl (λ number. ap (map (λ (b : RawBind). number b.variable.text)) all) c.items.invariant.variables;
      terms = same_trees _ _ c.items.terms c.items.terms refl (λ number. ap (map (λ (b : RawBind). tree_of number c.args.known.now b.term)) all) c.items.invariant.terms;
      same = c.items.invariant.same;
      grown = c.items.invariant.grown;
    }

-- ---- terms by their forms

pub term-returns-in_ok-make-in-Cond-clause-made : goal.term-returns-in_ok-make-in-Cond-clause-made
term-returns-in_ok-make-in-Cond-clause-made t c = same_tree _ _ (λ number agrees.
    let third = agrees_back number c.in_ok-make-in-Cond.ensures.grown agrees in
    let second = agrees_back number c.in_ok-else_part-in-Cond.ensures.grown third in
    let first = agrees_back number c.in_ok-then_part-in-Cond.ensures.grown second in
    let T : RawTerm → Tree = tree_of number c.args.known.now in
    ap (λ (g : Tree). tree.Cond g (plain c.in_ok-then_part-in-Cond.then_part.value) (plain c.in_ok-else_part-in-Cond.else_part.value)) (c.in_ok-guard-in-Cond.ensures.made.is_tree number first)
    ∙ ap (λ (g : Tree). tree.Cond (T c.get-in-Cond.result.now) g (plain c.in_ok-else_part-in-Cond.else_part.value)) (c.in_ok-then_part-in-Cond.ensures.made.is_tree number second)
    ∙ ap (λ (g : Tree). tree.Cond (T c.get-in-Cond.result.now) (T c.get-in-Cond-2.result.now) g) (c.in_ok-else_part-in-Cond.ensures.made.is_tree number third)
    ∙ forms.cond_is number c.args.known.now c.args.raw.now c.get-in-Cond.result.now c.get-in-Cond-2.result.now c.get-in-Cond-3.result.now (cc)) c.in_ok-make-in-Cond.ensures.made

pub term-returns-in_ok-operation_of_one-in-Unary-clause-made : goal.term-returns-in_ok-operation_of_one-in-Unary-clause-made
term-returns-in_ok-operation_of_one-in-Unary-clause-made t c = same_tree _ _ (λ number agrees.
    let first = agrees_back number c.in_ok-operation_of_one-in-Unary.ensures.grown agrees in
    ap (λ (x : Tree). tree.Oper c.unary_of.result (tree.more x tree.none)) (c.in_ok-operand-in-Unary.ensures.made.is_tree number first)
    ∙ ap (λ (o : Op). tree.Oper o (tree.more (tree_of number c.args.known.now c.get.result.now) tree.none)) (c.unary_of.ensures number c.args.known.now)
    ∙ forms.unary_is number c.args.known.now c.args.raw.now c.in-Unary.op c.get.result.now (cc)) c.in_ok-operation_of_one-in-Unary.ensures.made

pub term-returns-in_ok-operation-in-Binary-clause-made : goal.term-returns-in_ok-operation-in-Binary-clause-made
term-returns-in_ok-operation-in-Binary-clause-made t c = same_tree _ _ (λ number agrees.
    let second = agrees_back number c.in_ok-operation-in-Binary.ensures.grown agrees in
    let first = agrees_back number c.in_ok-right-in-Binary.ensures.grown second in
    let T : RawTerm → Tree = tree_of number c.args.known.now in
    ap (λ (x : Tree). tree.Oper c.op_of.result (tree.more x (tree.more (plain c.in_ok-right-in-Binary.right.value) tree.none))) (c.in_ok-left-in-Binary.ensures.made.is_tree number first)
    ∙ ap (λ (x : Tree). tree.Oper c.op_of.result (tree.more (T c.get-in-Binary.result.now) (tree.more x tree.none))) (c.in_ok-right-in-Binary.ensures.made.is_tree number second)
    ∙ ap (λ (o : Op). tree.Oper o (tree.more (T c.get-in-Binary.result.now) (tree.more (T c.get-in-Binary-2.result.now) tree.none))) (c.op_of.ensures number c.args.known.now)
    ∙ forms.binary_is number c.args.known.now c.args.raw.now c.in-Binary.op c.get-in-Binary.result.now c.get-in-Binary-2.result.now (cc)) c.in_ok-operation-in-Binary.ensures.made

pub term-nested_cases-requires-clause-same : goal.term-nested_cases-requires-clause-same
term-nested_cases-requires-clause-same t c = c.in_ok-cases-in-Switch.ensures.same

pub term-returns-in_ok-nested_cases-in-Switch-clause-made : goal.term-returns-in_ok-nested_cases-in-Switch-clause-made
term-returns-in_ok-nested_cases-in-Switch-clause-made t c = same_tree _ _ (λ number agrees.
    let third = agrees_back number c.in_ok-nested_cases-in-Switch.ensures.grown agrees in
    let second = agrees_back number c.in_ok-other-in-Switch.ensures.grown third in
    let first = agrees_back number c.in_ok-cases-in-Switch.ensures.grown second in
    let T : RawTerm → Tree = tree_of number c.args.known.now in
    let ls : List Tree = plains c.in_ok-cases-in-Switch.cases.labels in
    let us : List Tree = plains c.in_ok-cases-in-Switch.cases.values in
    let items : List RawCase = c.slice-in-Switch.result.now in
    ap (λ (x : Tree). cases_from x ls us (plain c.in_ok-other-in-Switch.other.value)) (c.in_ok-subject-in-Switch.ensures.made.is_tree number first)
    ∙ ap (λ (ts : List Tree). cases_from (T c.get-in-Switch.result.now) ts us (plain c.in_ok-other-in-Switch.other.value)) (c.in_ok-cases-in-Switch.ensures.labels.are_trees number second)
    ∙ ap (λ (ts : List Tree). cases_from (T c.get-in-Switch.result.now) (map (λ (k : RawCase). T k.label) items) ts (plain c.in_ok-other-in-Switch.other.value)) (c.in_ok-cases-in-Switch.ensures.values.are_trees number second)
    ∙ ap (cases_from (T c.get-in-Switch.result.now) (map (λ (k : RawCase). T k.label) items) (map (λ (k : RawCase). T k.value) items)) (c.in_ok-other-in-Switch.ensures.made.is_tree number third)
    ∙ forms.switch_is number c.args.known.now c.args.raw.now c.get-in-Switch.result.now items c.get-in-Switch-2.result.now (cc)) c.in_ok-nested_cases-in-Switch.ensures.made

pub term-nested_bounds-requires-clause-terms : goal.term-nested_bounds-requires-clause-terms
term-nested_bounds-requires-clause-terms t c = terms_stay c.in_ok-bounds-in-Let.bounds.terms c.in_ok-body-in-Let.ensures.grown c.in_ok-bounds-in-Let.ensures.terms.are_of_pool

pub term-nested_bounds-requires-clause-same : goal.term-nested_bounds-requires-clause-same
term-nested_bounds-requires-clause-same t c = c.in_ok-bounds-in-Let.ensures.same

pub term-returns-in_ok-nested_bounds-in-Let-clause-made : goal.term-returns-in_ok-nested_bounds-in-Let-clause-made
term-returns-in_ok-nested_bounds-in-Let-clause-made t c = same_tree _ _ (λ number agrees.
    let second = agrees_back number c.in_ok-nested_bounds-in-Let.ensures.grown agrees in
    let first = agrees_back number c.in_ok-body-in-Let.ensures.grown second in
    let T : RawTerm → Tree = tree_of number c.args.known.now in
    let us : List Tree = plains c.in_ok-bounds-in-Let.bounds.terms in
    let items : List RawBind = c.slice-in-Let.result.now in
    ap (λ (xs : List ℕ). bounds_from xs us (plain c.in_ok-body-in-Let.body.value)) (c.in_ok-bounds-in-Let.ensures.variables.are number first)
    ∙ ap (λ (ts : List Tree). bounds_from (map (λ (b : RawBind). number b.variable.text) items) ts (plain c.in_ok-body-in-Let.body.value)) (c.in_ok-bounds-in-Let.ensures.terms.are_trees number first)
    ∙ ap (bounds_from (map (λ (b : RawBind). number b.variable.text) items) (map (λ (b : RawBind). T b.term) items)) (c.in_ok-body-in-Let.ensures.made.is_tree number second)
    ∙ forms.let_is number c.args.known.now c.args.raw.now items c.get-in-Let.result.now (cc)) c.in_ok-nested_bounds-in-Let.ensures.made

pub term-returns-in_ok-make-in-Quant-clause-made : goal.term-returns-in_ok-make-in-Quant-clause-made
term-returns-in_ok-make-in-Quant-clause-made t c = same_tree _ _ (λ number agrees.
    let second = agrees_back number c.in_ok-make-in-Quant.ensures.grown agrees in
    let first = agrees_back number c.in_ok-guard-in-Quant.ensures.grown second in
    ap (λ (bs : List Binder). tree.Quant c.quantifier_of-quantifier.result bs (plain c.in_ok-guard-in-Quant.guard.value)) (c.in_ok-binders-in-Quant.ensures.made.are number first)
    ∙ ap (tree.Quant c.quantifier_of-quantifier.result (binders_of number c.args.known.now c.slice-in-Quant.result.now)) (c.in_ok-guard-in-Quant.ensures.made.is_tree number second)
    ∙ ap (λ (q : Quantifier). tree.Quant q (binders_of number c.args.known.now c.slice-in-Quant.result.now) (tree_of number c.args.known.now c.get-in-Quant.result.now)) (c.quantifier_of-quantifier.ensures number c.args.known.now)
    ∙ forms.quantified_is number c.args.known.now c.args.raw.now c.in-Quant.quantifier c.slice-in-Quant.result.now c.get-in-Quant.result.now (cc)) c.in_ok-make-in-Quant.ensures.made
