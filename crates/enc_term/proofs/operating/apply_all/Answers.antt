use Rattle.std.proofs.Common.{◌≡◌, ◌∙◌, ap, sym, arith, Bool, ◌&&◌, ◌||◌, ◌++◌, ◌∷◌, [], map, take, length, List}
use Rattle.std.specs.List.{list_any}
use Rattle.cnf_base.specs.Clauses.{lit_true}
use Rattle.asm_node.specs.Values.{same, result_of}
use Rattle.asm_node.specs.Term.{Gives}
use Rattle.enc_group.specs.declared.group.Entry.{Entry}
use Rattle.enc_group.specs.declared.tuple.Tuple.{Tuple}
use Rattle.enc_group.specs.Group.{holds, is_gives, values_in, group_variables}
use Rattle.enc_group.specs.Tuple.{tuples_in, tuple_variables}
use Rattle.enc_group.proofs.Groups.{variables_push, holds_push, length_push, any_more, map_push, map_more, take_all}
use Rattle.enc_group.proofs.Tuples.{tuples_end, tuple_variables_more}
use Rattle.enc_term.proofs.operating.apply_all.Goals as goal

pub loop-tuple-preserved : goal.loop-tuple-preserved
loop-tuple-preserved c =
    let e : Entry = record { value = c.apply-value.result; lit = c.tuple-item.result.lit } in
    let is : c.apply-value.result ≡ result_of c.args.op c.tuple-item.result.values = c.apply-value.ensures ∙ ap (result_of c.args.op) c.slice.ensures in
    record {
      means = λ v y.
          let q : Tuple → Bool = λ t. is_gives y (Gives (result_of c.args.op t.values)) && lit_true v t.lit in
          ap (λ es. holds v es y) c.in_ok-push.ensures ∙ holds_push v c.loop-tuple.bag e y
          ∙ ap (λ b. b || (same c.apply-value.result y && lit_true v c.tuple-item.result.lit)) (c.loop-tuple.invariant.means v y)
          ∙ ap (λ x. list_any q (take c.loop-tuple.tuple-index c.args.tuples.now) || (same x y && lit_true v c.tuple-item.result.lit)) is
          ∙ sym (any_more q c.args.tuples.now c.loop-tuple.tuple-index c.tuple-item.result c.loop-tuple-test.true c.tuple-item.is);
      values =
          ap values_in c.in_ok-push.ensures ∙ map_push (λ (d : Entry). d.value) c.loop-tuple.bag e
          ∙ ap (λ xs. xs ++ e.value ∷ []) c.loop-tuple.invariant.values
          ∙ ap (λ x. map (result_of c.args.op) (tuples_in (take c.loop-tuple.tuple-index c.args.tuples.now)) ++ x ∷ []) is
          ∙ sym (map_push (result_of c.args.op) (tuples_in (take c.loop-tuple.tuple-index c.args.tuples.now)) c.tuple-item.result.values)
          ∙ ap (map (result_of c.args.op)) (sym (map_more (λ (t : Tuple). t.values) c.args.tuples.now c.loop-tuple.tuple-index c.tuple-item.result c.loop-tuple-test.true c.tuple-item.is));
      within = ap group_variables c.in_ok-push.ensures ∙ omega (arith, variables_push c.loop-tuple.bag e, c.loop-tuple.invariant.within, tuple_variables_more c.args.tuples.now c.loop-tuple.tuple-index c.tuple-item.result c.loop-tuple-test.true c.tuple-item.is);
      long = ap (λ (es : List Entry). length es) c.in_ok-push.ensures ∙ omega (arith, length_push c.loop-tuple.bag e, c.loop-tuple.invariant.long);
    }

pub returns-clause-means : goal.returns-clause-means
returns-clause-means c = λ v o m.
    tuples_end v (λ vs. Gives (result_of c.args.op vs)) c.loop-tuple.bag c.args.tuples.now c.loop-tuple.tuple-index o c.loop-tuple-test.false m (c.loop-tuple.invariant.means v)

pub returns-clause-values : goal.returns-clause-values
returns-clause-values c = c.loop-tuple.invariant.values ∙ ap (λ ts. map (result_of c.args.op) (tuples_in ts)) (take_all c.args.tuples.now c.loop-tuple.tuple-index c.loop-tuple-test.false)

pub returns-clause-within : goal.returns-clause-within
returns-clause-within c = c.loop-tuple.invariant.within ∙ ap tuple_variables (take_all c.args.tuples.now c.loop-tuple.tuple-index c.loop-tuple-test.false)
