use Rattle.std.proofs.Common.{◌∙◌, ap, sym, arith, Bool, List, [], ◌∷◌, ◌++◌, ◌&&◌, ◌||◌, take, append_assoc, ◌<◌, length}
use Rattle.cnf_base.specs.Clauses.{lit_true}
use Rattle.cnf_gate.proofs.Growing.{grows_then}
use Rattle.asm_node.specs.Values.{same}
use Rattle.enc_group.specs.declared.group.Entry.{Entry}
use Rattle.enc_group.specs.Group.{holds, values_in, group_variables}
use Rattle.enc_group.proofs.Groups.{refused, over_more, variables_at, variables_push, holds_push, share, any_more, map_push, map_more, take_all}
use Rattle.enc_group.proofs.group.extend.Goals as goal

pub both-requires-clause-second : goal.both-requires-clause-second
both-requires-clause-second c =
    omega (arith, variables_at c.args.group.now c.loop-entry.entry-index c.entry-item.result c.loop-entry-test.true c.entry-item.is, c.loop-entry.invariant.grows.count, c.requires.group)

pub loop-entry-preserved : goal.loop-entry-preserved
loop-entry-preserved c =
    let e : Entry = record { value = c.entry-item.result.value; lit = c.in_ok-lit.lit } in
    let seen : List Entry = take c.loop-entry.entry-index c.args.group.now in
    record {
      grows = grows_then _ _ _ [] [] [] [] c.loop-entry.invariant.grows c.both.ensures.grows;
      means = λ v t y.
          let q : Entry → Bool = λ d. same d.value y && lit_true v d.lit in
          let was = holds v c.args.bag.now y in
          let on = lit_true v c.args.guard in
          ap (λ es. holds v es y) c.in_ok-add_entry.ensures ∙ holds_push v c.loop-entry.bag e y
          ∙ ap (λ b. b || (same e.value y && lit_true v e.lit)) (c.loop-entry.invariant.means v (c.both.ensures.grows.holds v t) y)
          ∙ ap (λ b. (was || (on && holds v seen y)) || (same e.value y && b)) (c.in_ok-lit.ensures.means v t)
          ∙ share was on (holds v seen y) (same e.value y) (lit_true v c.entry-item.result.lit)
          ∙ ap (λ b. was || (on && b)) (sym (any_more q c.args.group.now c.loop-entry.entry-index c.entry-item.result c.loop-entry-test.true c.entry-item.is));
      values =
          ap values_in c.in_ok-add_entry.ensures ∙ map_push (λ (d : Entry). d.value) c.loop-entry.bag e
          ∙ ap (λ xs. xs ++ e.value ∷ []) c.loop-entry.invariant.values
          ∙ append_assoc (values_in c.args.bag.now) (values_in seen) (e.value ∷ [])
          ∙ ap (λ xs. values_in c.args.bag.now ++ xs) (sym (map_more (λ (d : Entry). d.value) c.args.group.now c.loop-entry.entry-index c.entry-item.result c.loop-entry-test.true c.entry-item.is));
      within =
          omega (arith, ap group_variables c.in_ok-add_entry.ensures, variables_push c.loop-entry.bag e, c.loop-entry.invariant.within, c.both.ensures.grows.count, c.in_ok-lit.ensures.within);
      count = omega (arith, c.loop-entry.invariant.count, c.both.ensures.count);
      size = omega (arith, c.loop-entry.invariant.size, c.both.ensures.size);
    }

pub returns-clause-means : goal.returns-clause-means
returns-clause-means c = λ v t y.
    c.loop-entry.invariant.means v t y ∙ ap (λ es. holds v c.args.bag.now y || (lit_true v c.args.guard && holds v es y)) (take_all c.args.group.now c.loop-entry.entry-index c.loop-entry-test.false)

pub returns-clause-values : goal.returns-clause-values
returns-clause-values c =
    c.loop-entry.invariant.values ∙ ap (λ es. values_in c.args.bag.now ++ values_in es) (take_all c.args.group.now c.loop-entry.entry-index c.loop-entry-test.false)

pub returns-in_err-lit-clause-too_large : goal.returns-in_err-lit-clause-too_large
returns-in_err-lit-clause-too_large c =
    let before : c.loop-entry.entry-index < length c.args.group.now = c.loop-entry-test.true in
    refused c.both.result c.from_residual.result _ c.in_err-lit.was c.from_residual.ensures.1 c.both.ensures.too_large
    (over_more _ _ _ _ (omega (arith, before, c.loop-entry.invariant.count)) (omega (arith, before, c.loop-entry.invariant.size)))
