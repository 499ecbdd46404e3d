use Rattle.std.proofs.Common.{◌≡◌, ◌∙◌, ap, sym, arith, Bool, [], ◌∷◌, ◌++◌, ◌&&◌, ◌||◌, map, take, length, refl, true, false, ◌<◌, ◌+◌}
use Rattle.std.specs.List.{list_any}
use Rattle.cnf_base.specs.Clauses.{lit_true}
use Rattle.cnf_gate.proofs.Growing.{grows_then}
use Rattle.asm_domain.specs.declared.value.Value.{Value}
use Rattle.asm_node.specs.Values.{same_all}
use Rattle.enc_group.specs.declared.tuple.Tuple.{Tuple}
use Rattle.enc_group.specs.Group.{values_in}
use Rattle.enc_group.specs.Tuple.{holds_all, are_given, tuples_in, products}
use Rattle.enc_group.proofs.Groups.{refused, over_more, pick, any_more, take_all}
use Rattle.enc_group.proofs.Tuples.{behind, passes_behind, times_end, tuple_variables_at, products_more, more_rows, rows_up}
use Rattle.enc_group.proofs.tuple.times.Goals as goal

swap : (a b c : Bool) → a || (b && c) ≡ a || (c && b)
swap a true true = refl
swap a true false = refl
swap a false true = refl
swap a false false = refl

pub extend_tuples-requires-clause-first : goal.extend_tuples-requires-clause-first
extend_tuples-requires-clause-first c =
    omega (arith, tuple_variables_at c.args.tuples.now c.loop-tuple.tuple-index c.tuple-item.result c.loop-tuple-test.true c.tuple-item.is, c.loop-tuple.invariant.grows.count, c.requires.tuples)

pub loop-tuple-preserved : goal.loop-tuple-preserved
loop-tuple-preserved c = record {
  grows = grows_then _ _ _ [] [] [] [] c.loop-tuple.invariant.grows c.extend_tuples.ensures.grows;
  means = λ v t o m ys.
      let q : Tuple → Bool = λ t. are_given ys (behind o t.values) && lit_true v t.lit in
      let vs = c.tuple-item.result.values in
      c.in_ok-extend_tuples.ensures.means v t ys
      ∙ ap (λ b. holds_all v c.loop-tuple.all ys || (lit_true v c.tuple-item.result.lit && b)) (pick v c.args.group.now o (λ x. same_all (vs ++ x ∷ []) ys) m ∙ passes_behind ys vs o)
      ∙ ap (λ b. b || (lit_true v c.tuple-item.result.lit && are_given ys (behind o vs))) (c.loop-tuple.invariant.means v (c.extend_tuples.ensures.grows.holds v t) o m ys)
      ∙ swap (list_any q (take c.loop-tuple.tuple-index c.args.tuples.now)) (lit_true v c.tuple-item.result.lit) (are_given ys (behind o vs))
      ∙ sym (any_more q c.args.tuples.now c.loop-tuple.tuple-index c.tuple-item.result c.loop-tuple-test.true c.tuple-item.is);
  values =
      c.in_ok-extend_tuples.ensures.values
      ∙ ap (λ vss. vss ++ map (λ (x : Value). c.tuple-item.result.values ++ x ∷ []) (values_in c.args.group.now)) c.loop-tuple.invariant.values
      ∙ sym (products_more c.args.tuples.now (values_in c.args.group.now) c.loop-tuple.tuple-index c.tuple-item.result c.loop-tuple-test.true c.tuple-item.is);
  size = omega (arith, c.extend_tuples.ensures.size, c.loop-tuple.invariant.size, more_rows c.loop-tuple.tuple-index (length c.args.group.now));
  count = omega (arith, c.extend_tuples.ensures.count, c.loop-tuple.invariant.count, more_rows c.loop-tuple.tuple-index (length c.args.group.now));
  within = c.in_ok-extend_tuples.ensures.within;
  few = let before : c.loop-tuple.tuple-index < length c.args.tuples.now = c.loop-tuple-test.true in omega (arith, before);
}

pub returns-clause-means : goal.returns-clause-means
returns-clause-means c = λ v t os o m n.
    times_end v c.loop-tuple.all c.args.tuples.now c.loop-tuple.tuple-index os o c.loop-tuple-test.false m (c.loop-tuple.invariant.means v t o n)

pub returns-clause-values : goal.returns-clause-values
returns-clause-values c =
    c.loop-tuple.invariant.values ∙ ap (λ ts. products (tuples_in ts) (values_in c.args.group.now)) (take_all c.args.tuples.now c.loop-tuple.tuple-index c.loop-tuple-test.false)

pub returns-clause-count : goal.returns-clause-count
returns-clause-count c =
    omega (arith, c.loop-tuple.invariant.count, rows_up c.loop-tuple.tuple-index (length c.args.tuples.now) (length c.args.group.now) c.loop-tuple.invariant.few)

pub returns-clause-size : goal.returns-clause-size
returns-clause-size c =
    omega (arith, c.loop-tuple.invariant.size, rows_up c.loop-tuple.tuple-index (length c.args.tuples.now) (length c.args.group.now) c.loop-tuple.invariant.few)

pub returns-in_err-extend_tuples-clause-count : goal.returns-in_err-extend_tuples-clause-count
returns-in_err-extend_tuples-clause-count c =
    let before : c.loop-tuple.tuple-index < length c.args.tuples.now = c.loop-tuple-test.true in
    omega (arith, c.extend_tuples.ensures.count, c.loop-tuple.invariant.count, more_rows c.loop-tuple.tuple-index (length c.args.group.now), rows_up (c.loop-tuple.tuple-index + 1) (length c.args.tuples.now) (length c.args.group.now) (omega (arith, before)))

pub returns-in_err-extend_tuples-clause-size : goal.returns-in_err-extend_tuples-clause-size
returns-in_err-extend_tuples-clause-size c =
    let before : c.loop-tuple.tuple-index < length c.args.tuples.now = c.loop-tuple-test.true in
    omega (arith, c.extend_tuples.ensures.size, c.loop-tuple.invariant.size, more_rows c.loop-tuple.tuple-index (length c.args.group.now), rows_up (c.loop-tuple.tuple-index + 1) (length c.args.tuples.now) (length c.args.group.now) (omega (arith, before)))

pub returns-in_err-extend_tuples-clause-too_large : goal.returns-in_err-extend_tuples-clause-too_large
returns-in_err-extend_tuples-clause-too_large c =
    let before : c.loop-tuple.tuple-index < length c.args.tuples.now = c.loop-tuple-test.true in
    let more = more_rows c.loop-tuple.tuple-index (length c.args.group.now) in
    let fewer = rows_up (c.loop-tuple.tuple-index + 1) (length c.args.tuples.now) (length c.args.group.now) (omega (arith, before)) in
    refused c.extend_tuples.result c.from_residual.result _ c.in_err-extend_tuples.was c.from_residual.ensures.1 c.extend_tuples.ensures.too_large
    (over_more _ _ _ _ (omega (arith, c.loop-tuple.invariant.count, more, fewer)) (omega (arith, c.loop-tuple.invariant.size, more, fewer)))
