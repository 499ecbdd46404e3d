use Rattle.std.proofs.Common.{◌≡◌, ℕ, suc, ◌+◌, List, [], ◌∷◌, ◌++◌, map, take, length, refl, sym, ap, ◌∙◌}
use Rattle.std.proofs.lemmas.List.{take_more}
use Rattle.asm_source.specs.declared.sources.Place.{Place}
use Rattle.asm_node.specs.declared.term.Binder.{Binder}
use Rattle.asm_node.specs.Tree.{Tree, Trees, plain}
use Rattle.asm_node.specs.RuleTree as tree
use Rattle.asm_node.specs.RuleTree.{Rule, Rules, plain_rule, plain_rules}
use Rattle.asm_tree.specs.declared.term.RawTerm.{RawTerm}
use Rattle.asm_tree.specs.declared.term.RawBind.{RawBind}
use Rattle.asm_tree.specs.declared.rule.RawRule.{RawRule}
use Rattle.asm_tree.specs.declared.rule.RawRuleCase.{RawRuleCase}
use Rattle.asm_faults.specs.Model.{tree_of, trees_of, rule_of, parts_of, binders_of}
use Rattle.asm_build.specs.Made.{plains}
use Rattle.asm_build.specs.MadeRules.{plains_of_rules}
use Rattle.asm_build.specs.RuleParts.{rule_cases_from, rule_bounds_from, sequence_from}
use Rattle.asm_build.proofs.Growing.{same_maker, grown_on, agrees_back, term_stays, terms_stay, made_terms, pushed_term, took_all, length_push, no_terms, same_trees, mapped_more}
use Rattle.asm_build.proofs.TreeForms.{all_plain}
use Rattle.asm_build.proofs.RuleForms as forms
use Rattle.asm_build.proofs.RuleForms.{plain_kind-Par, children-Par, all_parts}
use Rattle.asm_build.proofs.RuleGrowing.{same_held, no_rules, same_rule, same_rules, pushed_rule, rule_stays, rules_stay}
use Rattle.asm_build.proofs.rule_nodes.+rule.Goals as goal

-- ---- parts

pub rules-raws-init : goal.rules-raws-init
rules-raws-init t c = record { made = no_rules c.args.maker.now _ _ _ c.new-made.ensures (λ number units. refl); grown = same_maker c.args.maker.now }

pub rules-raws-preserved : goal.rules-raws-preserved
rules-raws-preserved t c =
    let i : ℕ = c.raws.raw-index in
    let more : take (i + 1) c.args.raws.now ≡ take i c.args.raws.now ++ c.raw-item.result ∷ [] = take_more c.args.raws.now i c.raw-item.result c.raws-test.true ∙ ap (λ (y : RawRule). take i c.args.raws.now ++ y ∷ []) (sym c.raw-item.is) in
    record {
      made = same_rules _ _ (c.raws.made ++ c.in_ok-one.one ∷ []) _ c.in_ok-push.ensures.ok (λ number units. mapped_more (rule_of number c.args.known.now units c.args.file) c.args.raws.now i c.raw-item.result more)
          (pushed_rule _ _ c.raws.made c.in_ok-one.one c.in_ok-one.ensures.grown c.raws.invariant.made c.in_ok-one.ensures.made);
      grown = grown_on c.raws.invariant.grown c.in_ok-one.ensures.grown;
    }

pub rules-returns-clause-made : goal.rules-returns-clause-made
rules-returns-clause-made t c = same_rules _ _ c.raws.made c.raws.made refl (λ number units. ap (map (rule_of number c.args.known.now units c.args.file)) (took_all c.args.raws.now c.raws.raw-index c.raws-test.false)) c.raws.invariant.made

pub rules-returns-clause-grown : goal.rules-returns-clause-grown
rules-returns-clause-grown t c = c.raws.invariant.grown

-- ---- cases

pub cases_of-items-init : goal.cases_of-items-init
cases_of-items-init t c = record {
  labels = no_terms c.args.maker.now _ _ c.new-labels.ensures (λ number. refl);
  rules = no_rules c.args.maker.now _ _ _ c.new-rules.ensures (λ number units. refl);
  same = ap length c.new-labels.ensures ∙ sym (ap length c.new-rules.ensures);
  grown = same_maker c.args.maker.now;
}

pub cases_of-items-preserved : goal.cases_of-items-preserved
cases_of-items-preserved t c =
    let i : ℕ = c.items.item-index in
    let more : take (i + 1) c.args.items.now ≡ take i c.args.items.now ++ c.item-item.result ∷ [] = take_more c.args.items.now i c.item-item.result c.items-test.true ∙ ap (λ (y : RawRuleCase). take i c.args.items.now ++ y ∷ []) (sym c.item-item.is) in
    record {
      labels = same_trees _ _ (c.items.labels ++ c.in_ok-label.label ∷ []) _ c.in_ok-push.ensures.ok (λ number. mapped_more (λ (k : RawRuleCase). tree_of number c.args.known.now k.label) c.args.items.now i c.item-item.result more)
          (made_terms c.in_ok-one.ensures.grown (pushed_term _ _ c.items.labels c.in_ok-label.label c.in_ok-label.ensures.grown c.items.invariant.labels c.in_ok-label.ensures.made));
      rules = same_rules _ _ (c.items.rules ++ c.in_ok-one.one ∷ []) _ c.in_ok-push-2.ensures.ok (λ number units. mapped_more (λ (k : RawRuleCase). rule_of number c.args.known.now units c.args.file k.rule) c.args.items.now i c.item-item.result more)
          (pushed_rule _ _ c.items.rules c.in_ok-one.one (grown_on c.in_ok-label.ensures.grown c.in_ok-one.ensures.grown) c.items.invariant.rules c.in_ok-one.ensures.made);
      same = ap length c.in_ok-push.ensures.ok ∙ length_push c.items.labels c.in_ok-label.label ∙ ap (λ (n : ℕ). suc n) c.items.invariant.same ∙ sym (ap length c.in_ok-push-2.ensures.ok ∙ length_push c.items.rules c.in_ok-one.one);
      grown = grown_on c.items.invariant.grown (grown_on c.in_ok-label.ensures.grown c.in_ok-one.ensures.grown);
    }

pub cases_of-returns : goal.cases_of-returns
cases_of-returns t c =
    let all : take c.items.item-index c.args.items.now ≡ c.args.items.now = took_all c.args.items.now c.items.item-index c.items-test.false in
    record {
      labels = same_trees _ _ c.items.labels c.items.labels refl (λ number. ap (map (λ (k : RawRuleCase). tree_of number c.args.known.now k.label)) all) c.items.invariant.labels;
      rules = same_rules _ _ c.items.rules c.items.rules refl (λ number units. ap (map (λ (k : RawRuleCase). rule_of number c.args.known.now units c.args.file k.rule)) all) c.items.invariant.rules;
      same = c.items.invariant.same;
      grown = c.items.invariant.grown;
    }

-- ---- rules by their forms

pub rule-returns-in_ok-make-in-Skip-clause-made : goal.rule-returns-in_ok-make-in-Skip-clause-made
rule-returns-in_ok-make-in-Skip-clause-made t c = same_rule _ _ (λ number units agrees known.
    forms.skip_is number c.args.known.now units c.args.file c.args.raw.now (cc)) (c.in_ok-make-in-Skip.ensures.made c.args.names.now)

pub rule-returns-in_ok-make-in-Update-clause-made : goal.rule-returns-in_ok-make-in-Update-clause-made
rule-returns-in_ok-make-in-Update-clause-made t c = same_rule _ _ (λ number units agrees known.
    let second = agrees_back number c.in_ok-make-in-Update.ensures.grown agrees in
    let first = agrees_back number c.in_ok-value-in-Update.ensures.grown second in
    let T : RawTerm → Tree = tree_of number c.args.known.now in
    let place : Place = record { file = c.args.file; at = c.args.raw.now.at } in
    let ts : Trees = trees_of number c.args.known.now (map T c.slice.result.now) in
    ap (λ (us : Trees). tree.Update place c.function_number-function.result us (plain c.in_ok-value-in-Update.value.value)) (all_plain number c.args.known.now c.in_ok-arguments-in-Update.arguments
    ∙ ap (trees_of number c.args.known.now) (c.in_ok-arguments-in-Update.ensures.made.are_trees number first))
    ∙ ap (λ (u : Tree). tree.Update place c.function_number-function.result ts u) (c.in_ok-value-in-Update.ensures.made.is_tree number second)
    ∙ ap (λ (f : ℕ). tree.Update place f ts (T c.in-Update.value)) (c.function_number-function.ensures number)
    ∙ forms.update_is number c.args.known.now units c.args.file c.args.raw.now c.in-Update.name c.slice.result.now c.in-Update.value (cc)) (c.in_ok-make-in-Update.ensures.made c.args.names.now)

pub rule-returns-in_ok-make-in-Par-clause-made : goal.rule-returns-in_ok-make-in-Par-clause-made
rule-returns-in_ok-make-in-Par-clause-made t c = same_rule _ _ (λ number units agrees known.
    let first = agrees_back number c.in_ok-make-in-Par.ensures.grown agrees in
    let place : Place = record { file = c.args.file; at = c.args.raw.now.at } in
    plain_kind-Par place c.in_ok-parts-in-Par.parts
    ∙ ap (tree.Par place) (all_parts number c.args.known.now units c.args.file c.in_ok-parts-in-Par.parts
    ∙ ap (parts_of number c.args.known.now units c.args.file) (c.in_ok-parts-in-Par.ensures.made.are_trees number units first known))
    ∙ forms.par_is number c.args.known.now units c.args.file c.args.raw.now c.slice-in-Par.result.now (cc)) (c.in_ok-make-in-Par.ensures.made c.args.names.now)

pub rule-returns-in_ok-sequence-in-Seq-clause-made : goal.rule-returns-in_ok-sequence-in-Seq-clause-made
rule-returns-in_ok-sequence-in-Seq-clause-made t c = same_rule _ _ (λ number units agrees known.
    let first = agrees_back number c.in_ok-sequence-in-Seq.ensures.grown agrees in
    let place : Place = record { file = c.args.file; at = c.args.raw.now.at } in
    ap (sequence_from place) (ap plains_of_rules c.slice-in-Seq-2.ensures ∙ c.in_ok-parts-in-Seq.ensures.made.are_trees number units first known)
    ∙ forms.seq_is number c.args.known.now units c.args.file c.args.raw.now c.slice-in-Seq.result.now (cc)) (c.in_ok-sequence-in-Seq.ensures.made c.args.names.now)

pub rule-returns-in_ok-make-in-If-clause-made : goal.rule-returns-in_ok-make-in-If-clause-made
rule-returns-in_ok-make-in-If-clause-made t c = same_rule _ _ (λ number units agrees known.
    let third = agrees_back number c.in_ok-make-in-If.ensures.grown agrees in
    let second = agrees_back number c.in_ok-else_part-in-If.ensures.grown third in
    let first = agrees_back number c.in_ok-then_part-in-If.ensures.grown second in
    let R : RawRule → Rule = rule_of number c.args.known.now units c.args.file in
    let place : Place = record { file = c.args.file; at = c.args.raw.now.at } in
    ap (λ (g : Tree). tree.If place g (plain_rule c.in_ok-then_part-in-If.then_part.value) (plain_rule c.in_ok-else_part-in-If.else_part.value)) (c.in_ok-guard-in-If.ensures.made.is_tree number first)
    ∙ ap (λ (p : Rule). tree.If place (tree_of number c.args.known.now c.in-If.guard) p (plain_rule c.in_ok-else_part-in-If.else_part.value)) (c.in_ok-then_part-in-If.ensures.made.is_tree number units second known)
    ∙ ap (λ (p : Rule). tree.If place (tree_of number c.args.known.now c.in-If.guard) (R c.get.result.now) p) (c.in_ok-else_part-in-If.ensures.made.is_tree number units third known)
    ∙ forms.if_is number c.args.known.now units c.args.file c.args.raw.now c.in-If.guard c.get.result.now c.get-in-If.result.now (cc)) (c.in_ok-make-in-If.ensures.made c.args.names.now)

pub rule-returns-in_ok-nested_cases-in-Switch-clause-made : goal.rule-returns-in_ok-nested_cases-in-Switch-clause-made
rule-returns-in_ok-nested_cases-in-Switch-clause-made t c = same_rule _ _ (λ number units agrees known.
    let third = agrees_back number c.in_ok-nested_cases-in-Switch.ensures.grown agrees in
    let second = agrees_back number c.in_ok-other-in-Switch.ensures.grown third in
    let first = agrees_back number c.in_ok-cases-in-Switch.ensures.grown second in
    let T : RawTerm → Tree = tree_of number c.args.known.now in
    let R : RawRule → Rule = rule_of number c.args.known.now units c.args.file in
    let place : Place = record { file = c.args.file; at = c.args.raw.now.at } in
    let ls : List Tree = plains c.in_ok-cases-in-Switch.cases.labels in
    let ps : List Rule = plains_of_rules c.in_ok-cases-in-Switch.cases.rules in
    let other : Rule = plain_rule c.in_ok-other-in-Switch.other.value in
    let items : List RawRuleCase = c.slice-in-Switch.result.now in
    ap (λ (x : Tree). rule_cases_from place x ls ps other) (c.in_ok-subject-in-Switch.ensures.made.is_tree number first)
    ∙ ap (λ (ts : List Tree). rule_cases_from place (T c.in-Switch.subject) ts ps other) (c.in_ok-cases-in-Switch.ensures.labels.are_trees number second)
    ∙ ap (λ (qs : List Rule). rule_cases_from place (T c.in-Switch.subject) (map (λ (k : RawRuleCase). T k.label) items) qs other) (c.in_ok-cases-in-Switch.ensures.rules.are_trees number units second known)
    ∙ ap (rule_cases_from place (T c.in-Switch.subject) (map (λ (k : RawRuleCase). T k.label) items) (map (λ (k : RawRuleCase). R k.rule) items)) (c.in_ok-other-in-Switch.ensures.made.is_tree number units third known)
    ∙ forms.switch_is number c.args.known.now units c.args.file c.args.raw.now c.in-Switch.subject items c.get-in-Switch.result.now (cc)) (c.in_ok-nested_cases-in-Switch.ensures.made c.args.names.now)

pub rule-returns-in_ok-nested_bounds-in-Let-clause-made : goal.rule-returns-in_ok-nested_bounds-in-Let-clause-made
rule-returns-in_ok-nested_bounds-in-Let-clause-made t c = same_rule _ _ (λ number units agrees known.
    let second = agrees_back number c.in_ok-nested_bounds-in-Let.ensures.grown agrees in
    let first = agrees_back number c.in_ok-body-in-Let.ensures.grown second in
    let T : RawTerm → Tree = tree_of number c.args.known.now in
    let place : Place = record { file = c.args.file; at = c.args.raw.now.at } in
    let us : List Tree = plains c.in_ok-bounds-in-Let.bounds.terms in
    let items : List RawBind = c.slice-in-Let.result.now in
    ap (λ (xs : List ℕ). rule_bounds_from place xs us (plain_rule c.in_ok-body-in-Let.body.value)) (c.in_ok-bounds-in-Let.ensures.variables.are number first)
    ∙ ap (λ (ts : List Tree). rule_bounds_from place (map (λ (b : RawBind). number b.variable.text) items) ts (plain_rule c.in_ok-body-in-Let.body.value)) (c.in_ok-bounds-in-Let.ensures.terms.are_trees number first)
    ∙ ap (rule_bounds_from place (map (λ (b : RawBind). number b.variable.text) items) (map (λ (b : RawBind). T b.term) items)) (c.in_ok-body-in-Let.ensures.made.is_tree number units second known)
    ∙ forms.let_is number c.args.known.now units c.args.file c.args.raw.now items c.get-in-Let.result.now (cc)) (c.in_ok-nested_bounds-in-Let.ensures.made c.args.names.now)

pub rule-returns-in_ok-make-in-Forall-clause-made : goal.rule-returns-in_ok-make-in-Forall-clause-made
rule-returns-in_ok-make-in-Forall-clause-made t c = same_rule _ _ (λ number units agrees known.
    let third = agrees_back number c.in_ok-make-in-Forall.ensures.grown agrees in
    let second = agrees_back number c.in_ok-body-in-Forall.ensures.grown third in
    let first = agrees_back number c.in_ok-guard-in-Forall.ensures.grown second in
    let T : RawTerm → Tree = tree_of number c.args.known.now in
    let place : Place = record { file = c.args.file; at = c.args.raw.now.at } in
    let B : List Binder = binders_of number c.args.known.now c.slice-in-Forall.result.now in
    ap (λ (bs : List Binder). tree.Forall place bs (plain c.in_ok-guard-in-Forall.guard.value) (plain_rule c.in_ok-body-in-Forall.body.value)) (c.in_ok-binders-in-Forall.ensures.made.are number first)
    ∙ ap (λ (g : Tree). tree.Forall place B g (plain_rule c.in_ok-body-in-Forall.body.value)) (c.in_ok-guard-in-Forall.ensures.made.is_tree number second)
    ∙ ap (tree.Forall place B (T c.in-Forall.guard)) (c.in_ok-body-in-Forall.ensures.made.is_tree number units third known)
    ∙ forms.forall_is number c.args.known.now units c.args.file c.args.raw.now c.slice-in-Forall.result.now c.in-Forall.guard c.get-in-Forall.result.now (cc)) (c.in_ok-make-in-Forall.ensures.made c.args.names.now)

pub rule-returns-in_ok-make-in-Choose-clause-made : goal.rule-returns-in_ok-make-in-Choose-clause-made
rule-returns-in_ok-make-in-Choose-clause-made t c = same_rule _ _ (λ number units agrees known.
    let fourth = agrees_back number c.in_ok-make-in-Choose.ensures.grown agrees in
    let third = agrees_back number c.in_ok-otherwise-in-Choose.ensures.grown fourth in
    let second = agrees_back number c.in_ok-body-in-Choose.ensures.grown third in
    let first = agrees_back number c.in_ok-guard-in-Choose.ensures.grown second in
    let T : RawTerm → Tree = tree_of number c.args.known.now in
    let R : RawRule → Rule = rule_of number c.args.known.now units c.args.file in
    let place : Place = record { file = c.args.file; at = c.args.raw.now.at } in
    let B : List Binder = binders_of number c.args.known.now c.slice-in-Choose.result.now in
    let body : Rule = plain_rule c.in_ok-body-in-Choose.body.value in
    let otherwise : Rule = plain_rule c.in_ok-otherwise-in-Choose.otherwise.value in
    ap (λ (bs : List Binder). tree.Choose place bs (plain c.in_ok-guard-in-Choose.guard.value) body otherwise) (c.in_ok-binders-in-Choose.ensures.made.are number first)
    ∙ ap (λ (g : Tree). tree.Choose place B g body otherwise) (c.in_ok-guard-in-Choose.ensures.made.is_tree number second)
    ∙ ap (λ (p : Rule). tree.Choose place B (T c.in-Choose.guard) p otherwise) (c.in_ok-body-in-Choose.ensures.made.is_tree number units third known)
    ∙ ap (tree.Choose place B (T c.in-Choose.guard) (R c.get-in-Choose.result.now)) (c.in_ok-otherwise-in-Choose.ensures.made.is_tree number units fourth known)
    ∙ forms.choose_is number c.args.known.now units c.args.file c.args.raw.now c.slice-in-Choose.result.now c.in-Choose.guard c.get-in-Choose.result.now c.get-in-Choose-2.result.now (cc)) (c.in_ok-make-in-Choose.ensures.made c.args.names.now)

pub rule-returns-in_ok-make-in-Call-clause-made : goal.rule-returns-in_ok-make-in-Call-clause-made
rule-returns-in_ok-make-in-Call-clause-made t c = same_rule _ _ (λ number units agrees known.
    let first = agrees_back number c.in_ok-make-in-Call.ensures.grown agrees in
    let T : RawTerm → Tree = tree_of number c.args.known.now in
    let place : Place = record { file = c.args.file; at = c.args.raw.now.at } in
    ap (λ (us : Trees). tree.Call place c.rule_number-number.result us) (all_plain number c.args.known.now c.in_ok-actuals-in-Call.actuals
    ∙ ap (trees_of number c.args.known.now) (c.in_ok-actuals-in-Call.ensures.made.are_trees number first))
    ∙ ap (λ (r : ℕ). tree.Call place r (trees_of number c.args.known.now (map T c.slice-in-Call.result.now))) (c.rule_number-number.ensures number units c.args.file known c.args.known.now)
    ∙ forms.call_is number c.args.known.now units c.args.file c.args.raw.now c.in-Call.name c.slice-in-Call.result.now (cc)) (c.in_ok-make-in-Call.ensures.made c.args.names.now)

-- ---- what the last calls ask for

pub rule-make-requires-in-Update : goal.rule-make-requires-in-Update
rule-make-requires-in-Update t c = (terms_stay c.in_ok-arguments-in-Update.arguments c.in_ok-value-in-Update.ensures.grown c.in_ok-arguments-in-Update.ensures.made.are_of_pool, c.in_ok-value-in-Update.ensures.made.is_of_pool)

pub rule-make-requires-in-Par : goal.rule-make-requires-in-Par
rule-make-requires-in-Par t c = children-Par [] _ (record { file = c.args.file; at = c.args.raw.now.at }) c.in_ok-parts-in-Par.parts c.in_ok-parts-in-Par.ensures.made.are_of_pool

pub rule-sequence-requires : goal.rule-sequence-requires
rule-sequence-requires t c = same_held _ c.in_ok-parts-in-Seq.parts c.slice-in-Seq-2.result.now c.slice-in-Seq-2.ensures c.in_ok-parts-in-Seq.ensures.made.are_of_pool

pub rule-make-requires-in-If : goal.rule-make-requires-in-If
rule-make-requires-in-If t c = (
  term_stays c.in_ok-guard-in-If.guard.value (grown_on c.in_ok-then_part-in-If.ensures.grown c.in_ok-else_part-in-If.ensures.grown) c.in_ok-guard-in-If.ensures.made.is_of_pool,
  rule_stays c.in_ok-then_part-in-If.then_part.value c.in_ok-else_part-in-If.ensures.grown c.in_ok-then_part-in-If.ensures.made.is_of_pool,
  c.in_ok-else_part-in-If.ensures.made.is_of_pool,
)

pub rule-nested_cases-requires-clause-subject : goal.rule-nested_cases-requires-clause-subject
rule-nested_cases-requires-clause-subject t c = term_stays c.in_ok-subject-in-Switch.subject.value (grown_on c.in_ok-cases-in-Switch.ensures.grown c.in_ok-other-in-Switch.ensures.grown) c.in_ok-subject-in-Switch.ensures.made.is_of_pool

pub rule-nested_cases-requires-clause-labels : goal.rule-nested_cases-requires-clause-labels
rule-nested_cases-requires-clause-labels t c = terms_stay c.in_ok-cases-in-Switch.cases.labels c.in_ok-other-in-Switch.ensures.grown c.in_ok-cases-in-Switch.ensures.labels.are_of_pool

pub rule-nested_cases-requires-clause-rules : goal.rule-nested_cases-requires-clause-rules
rule-nested_cases-requires-clause-rules t c = rules_stay c.in_ok-cases-in-Switch.cases.rules c.in_ok-other-in-Switch.ensures.grown c.in_ok-cases-in-Switch.ensures.rules.are_of_pool

pub rule-nested_cases-requires-clause-same : goal.rule-nested_cases-requires-clause-same
rule-nested_cases-requires-clause-same t c = c.in_ok-cases-in-Switch.ensures.same

pub rule-nested_cases-requires-clause-other : goal.rule-nested_cases-requires-clause-other
rule-nested_cases-requires-clause-other t c = c.in_ok-other-in-Switch.ensures.made.is_of_pool

pub rule-nested_bounds-requires-clause-terms : goal.rule-nested_bounds-requires-clause-terms
rule-nested_bounds-requires-clause-terms t c = terms_stay c.in_ok-bounds-in-Let.bounds.terms c.in_ok-body-in-Let.ensures.grown c.in_ok-bounds-in-Let.ensures.terms.are_of_pool

pub rule-nested_bounds-requires-clause-same : goal.rule-nested_bounds-requires-clause-same
rule-nested_bounds-requires-clause-same t c = c.in_ok-bounds-in-Let.ensures.same

pub rule-nested_bounds-requires-clause-body : goal.rule-nested_bounds-requires-clause-body
rule-nested_bounds-requires-clause-body t c = c.in_ok-body-in-Let.ensures.made.is_of_pool

pub rule-make-requires-in-Forall : goal.rule-make-requires-in-Forall
rule-make-requires-in-Forall t c = (term_stays c.in_ok-guard-in-Forall.guard.value c.in_ok-body-in-Forall.ensures.grown c.in_ok-guard-in-Forall.ensures.made.is_of_pool, c.in_ok-body-in-Forall.ensures.made.is_of_pool)

pub rule-make-requires-in-Choose : goal.rule-make-requires-in-Choose
rule-make-requires-in-Choose t c = (
  term_stays c.in_ok-guard-in-Choose.guard.value (grown_on c.in_ok-body-in-Choose.ensures.grown c.in_ok-otherwise-in-Choose.ensures.grown) c.in_ok-guard-in-Choose.ensures.made.is_of_pool,
  rule_stays c.in_ok-body-in-Choose.body.value c.in_ok-otherwise-in-Choose.ensures.grown c.in_ok-body-in-Choose.ensures.made.is_of_pool,
  c.in_ok-otherwise-in-Choose.ensures.made.is_of_pool,
)

pub rule-make-requires-in-Call : goal.rule-make-requires-in-Call
rule-make-requires-in-Call t c = c.in_ok-actuals-in-Call.ensures.made.are_of_pool

-- ---- the nodes that were there stay

pub rule-returns-in_ok-make-in-Skip-clause-grown : goal.rule-returns-in_ok-make-in-Skip-clause-grown
rule-returns-in_ok-make-in-Skip-clause-grown t c = c.in_ok-make-in-Skip.ensures.grown

pub rule-returns-in_ok-make-in-Update-clause-grown : goal.rule-returns-in_ok-make-in-Update-clause-grown
rule-returns-in_ok-make-in-Update-clause-grown t c = grown_on c.in_ok-arguments-in-Update.ensures.grown (grown_on c.in_ok-value-in-Update.ensures.grown c.in_ok-make-in-Update.ensures.grown)

pub rule-returns-in_ok-make-in-Par-clause-grown : goal.rule-returns-in_ok-make-in-Par-clause-grown
rule-returns-in_ok-make-in-Par-clause-grown t c = grown_on c.in_ok-parts-in-Par.ensures.grown c.in_ok-make-in-Par.ensures.grown

pub rule-returns-in_ok-sequence-in-Seq-clause-grown : goal.rule-returns-in_ok-sequence-in-Seq-clause-grown
rule-returns-in_ok-sequence-in-Seq-clause-grown t c = grown_on c.in_ok-parts-in-Seq.ensures.grown c.in_ok-sequence-in-Seq.ensures.grown

pub rule-returns-in_ok-make-in-If-clause-grown : goal.rule-returns-in_ok-make-in-If-clause-grown
rule-returns-in_ok-make-in-If-clause-grown t c = grown_on c.in_ok-guard-in-If.ensures.grown (grown_on c.in_ok-then_part-in-If.ensures.grown (grown_on c.in_ok-else_part-in-If.ensures.grown c.in_ok-make-in-If.ensures.grown))

pub rule-returns-in_ok-nested_cases-in-Switch-clause-grown : goal.rule-returns-in_ok-nested_cases-in-Switch-clause-grown
rule-returns-in_ok-nested_cases-in-Switch-clause-grown t c = grown_on c.in_ok-subject-in-Switch.ensures.grown (grown_on c.in_ok-cases-in-Switch.ensures.grown (grown_on c.in_ok-other-in-Switch.ensures.grown c.in_ok-nested_cases-in-Switch.ensures.grown))

pub rule-returns-in_ok-nested_bounds-in-Let-clause-grown : goal.rule-returns-in_ok-nested_bounds-in-Let-clause-grown
rule-returns-in_ok-nested_bounds-in-Let-clause-grown t c = grown_on c.in_ok-bounds-in-Let.ensures.grown (grown_on c.in_ok-body-in-Let.ensures.grown c.in_ok-nested_bounds-in-Let.ensures.grown)

pub rule-returns-in_ok-make-in-Forall-clause-grown : goal.rule-returns-in_ok-make-in-Forall-clause-grown
rule-returns-in_ok-make-in-Forall-clause-grown t c = grown_on c.in_ok-binders-in-Forall.ensures.grown (grown_on c.in_ok-guard-in-Forall.ensures.grown (grown_on c.in_ok-body-in-Forall.ensures.grown c.in_ok-make-in-Forall.ensures.grown))

pub rule-returns-in_ok-make-in-Choose-clause-grown : goal.rule-returns-in_ok-make-in-Choose-clause-grown
rule-returns-in_ok-make-in-Choose-clause-grown t c = grown_on c.in_ok-binders-in-Choose.ensures.grown (grown_on c.in_ok-guard-in-Choose.ensures.grown (grown_on c.in_ok-body-in-Choose.ensures.grown (grown_on c.in_ok-otherwise-in-Choose.ensures.grown c.in_ok-make-in-Choose.ensures.grown)))

pub rule-returns-in_ok-make-in-Call-clause-grown : goal.rule-returns-in_ok-make-in-Call-clause-grown
rule-returns-in_ok-make-in-Call-clause-grown t c = grown_on c.in_ok-actuals-in-Call.ensures.grown c.in_ok-make-in-Call.ensures.grown
