use Rattle.std.proofs.Common.{◌∙◌, ap, sym, arith, Bool, List, [], ◌∷◌, ◌++◌, ◌&&◌, ◌||◌, map, take, append_assoc, ◌<◌, length}
use Rattle.std.specs.List.{list_any}
use Rattle.cnf_base.specs.Clauses.{lit_true}
use Rattle.cnf_gate.proofs.Growing.{grows_then}
use Rattle.asm_domain.specs.declared.value.Value.{Value}
use Rattle.asm_node.specs.Values.{same_all}
use Rattle.enc_group.specs.declared.group.Entry.{Entry}
use Rattle.enc_group.specs.declared.tuple.Tuple.{Tuple}
use Rattle.enc_group.specs.Group.{values_in}
use Rattle.enc_group.specs.Tuple.{holds_all, tuples_in, tuple_variables}
use Rattle.enc_group.proofs.Groups.{refused, over_more, variables_at, share, any_more, map_push, map_more, take_all}
use Rattle.enc_group.proofs.Tuples.{holds_all_push, tuple_variables_push}
use Rattle.enc_group.proofs.tuple.extend_tuples.Goals as goal

pub both-requires-clause-second : goal.both-requires-clause-second
both-requires-clause-second c =
    omega (arith, variables_at c.args.group.now c.loop-entry.entry-index c.entry-item.result c.loop-entry-test.true c.entry-item.is, c.loop-entry.invariant.grows.count, c.requires.group)

pub loop-entry-preserved : goal.loop-entry-preserved
loop-entry-preserved c =
    let i = c.loop-entry.entry-index in
    let group = c.args.group.now in
    let e = c.entry-item.result in
    let first = c.args.first.now.values in
    let pushed : Tuple = record { values = c.in_ok-values.values; lit = c.in_ok-lit.lit } in
    record {
      grows = grows_then _ _ _ [] [] [] [] c.loop-entry.invariant.grows c.both.ensures.grows;
      means = λ v t ys.
          let q : Entry → Bool = λ d. same_all (first ++ d.value ∷ []) ys && lit_true v d.lit in
          let was = holds_all v c.args.tuples.now ys in
          let on = lit_true v c.args.first.now.lit in
          ap (λ ts. holds_all v ts ys) c.in_ok-add_tuple.ensures ∙ holds_all_push v c.loop-entry.tuples pushed ys
          ∙ ap (λ b. b || (same_all c.in_ok-values.values ys && lit_true v c.in_ok-lit.lit)) (c.loop-entry.invariant.means v (c.both.ensures.grows.holds v t) ys)
          ∙ ap (λ vs. (was || (on && list_any q (take i group))) || (same_all vs ys && lit_true v c.in_ok-lit.lit)) c.in_ok-values.ensures
          ∙ ap (λ b. (was || (on && list_any q (take i group))) || (same_all (first ++ e.value ∷ []) ys && b)) (c.in_ok-lit.ensures.means v t)
          ∙ share was on (list_any q (take i group)) (same_all (first ++ e.value ∷ []) ys) (lit_true v e.lit)
          ∙ ap (λ b. was || (on && b)) (sym (any_more q group i e c.loop-entry-test.true c.entry-item.is));
      values =
          let row : Value → List Value = λ x. first ++ x ∷ [] in
          ap tuples_in c.in_ok-add_tuple.ensures ∙ map_push (λ (t : Tuple). t.values) c.loop-entry.tuples pushed
          ∙ ap (λ vss. vss ++ c.in_ok-values.values ∷ []) c.loop-entry.invariant.values
          ∙ append_assoc (tuples_in c.args.tuples.now) (map row (values_in (take i group))) (c.in_ok-values.values ∷ [])
          ∙ ap (λ vs. tuples_in c.args.tuples.now ++ (map row (values_in (take i group)) ++ vs ∷ [])) c.in_ok-values.ensures
          ∙ ap (λ vss. tuples_in c.args.tuples.now ++ vss)
          (sym (map_push row (values_in (take i group)) e.value) ∙ ap (map row) (sym (map_more (λ (d : Entry). d.value) group i e c.loop-entry-test.true c.entry-item.is)));
      size = omega (arith, c.loop-entry.invariant.size, c.both.ensures.size);
      count = omega (arith, c.loop-entry.invariant.count, c.both.ensures.count);
      within =
          omega (arith, ap tuple_variables c.in_ok-add_tuple.ensures, tuple_variables_push c.loop-entry.tuples pushed, c.loop-entry.invariant.within, c.both.ensures.grows.count, c.in_ok-lit.ensures.within);
    }

pub returns-clause-means : goal.returns-clause-means
returns-clause-means c = λ v t ys.
    let q : Entry → Bool = λ d. same_all (c.args.first.now.values ++ d.value ∷ []) ys && lit_true v d.lit in
    c.loop-entry.invariant.means v t ys
    ∙ ap (λ es. holds_all v c.args.tuples.now ys || (lit_true v c.args.first.now.lit && list_any q es)) (take_all c.args.group.now c.loop-entry.entry-index c.loop-entry-test.false)

pub returns-clause-values : goal.returns-clause-values
returns-clause-values c =
    c.loop-entry.invariant.values
    ∙ ap (λ es. tuples_in c.args.tuples.now ++ map (λ (x : Value). c.args.first.now.values ++ x ∷ []) (values_in es)) (take_all c.args.group.now c.loop-entry.entry-index c.loop-entry-test.false)

pub returns-in_err-lit-clause-too_large : goal.returns-in_err-lit-clause-too_large
returns-in_err-lit-clause-too_large c =
    let before : c.loop-entry.entry-index < length c.args.group.now = c.loop-entry-test.true in
    refused c.both.result c.from_residual.result _ c.in_err-lit.was c.from_residual.ensures.1 c.both.ensures.too_large
    (over_more _ _ _ _ (omega (arith, before, c.loop-entry.invariant.count)) (omega (arith, before, c.loop-entry.invariant.size)))
