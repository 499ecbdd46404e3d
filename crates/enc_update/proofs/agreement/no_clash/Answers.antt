use Rattle.std.proofs.Common.{◌≡◌, ◌∙◌, ap, sym, arith, length, ◌+◌, [], List, map, ◌||◌}
use Rattle.std.specs.List.{list_any}
use Rattle.cnf_base.specs.declared.lit.Lit.{Lit}
use Rattle.cnf_base.specs.Clauses.{clause_variables, lit_true}
use Rattle.cnf_gate.proofs.Growing.{grows_then}
use Rattle.enc_group.specs.declared.group.Entry.{Entry}
use Rattle.enc_group.specs.Binding.{group_at}
use Rattle.enc_group.proofs.Groups.{any_more, length_push, over_more, refused}
use Rattle.enc_group.proofs.Places.{entries_more, entries_up}
use Rattle.enc_update.specs.Updates.{two_true}
use Rattle.enc_update.proofs.Agreeing.{any_push, clause_push, group_is}
use Rattle.enc_update.proofs.agreement.no_clash.Goals as goal

pub returns-in_err-clash-clause-count : goal.returns-in_err-clash-clause-count
returns-in_err-clash-clause-count c =
    let i = c.loop-group.group-index in
    let gs : List (List Entry) = c.args.groups.now in
    let at : c.slice.result.now ≡ group_at gs i = c.slice.ensures ∙ sym (group_is gs i c.group-item.result c.loop-group-test.true c.group-item.is) in
    let long : length c.slice.result.now ≡ length (group_at gs i) = ap (λ (es : List Entry). length es) at in
    let more = entries_more gs i in
    let fewer = entries_up gs (i + 1) (length gs) (let lt = c.loop-group-test.true in omega arith) in
    let lt = c.loop-group-test.true in
    omega (arith, c.clash_at.ensures.count, c.loop-group.invariant.count, long, more, fewer, lt)

pub returns-in_err-clash-clause-size : goal.returns-in_err-clash-clause-size
returns-in_err-clash-clause-size c =
    let i = c.loop-group.group-index in
    let gs : List (List Entry) = c.args.groups.now in
    let at : c.slice.result.now ≡ group_at gs i = c.slice.ensures ∙ sym (group_is gs i c.group-item.result c.loop-group-test.true c.group-item.is) in
    let long : length c.slice.result.now ≡ length (group_at gs i) = ap (λ (es : List Entry). length es) at in
    let more = entries_more gs i in
    let fewer = entries_up gs (i + 1) (length gs) (let lt = c.loop-group-test.true in omega arith) in
    let lt = c.loop-group-test.true in
    omega (arith, c.clash_at.ensures.size, c.loop-group.invariant.size, long, more, fewer, lt)

pub returns-in_err-push_lit-clause-count : goal.returns-in_err-push_lit-clause-count
returns-in_err-push_lit-clause-count c =
    let i = c.loop-group.group-index in
    let gs : List (List Entry) = c.args.groups.now in
    let at : c.slice.result.now ≡ group_at gs i = c.slice.ensures ∙ sym (group_is gs i c.group-item.result c.loop-group-test.true c.group-item.is) in
    let long : length c.slice.result.now ≡ length (group_at gs i) = ap (λ (es : List Entry). length es) at in
    let more = entries_more gs i in
    let fewer = entries_up gs (i + 1) (length gs) (let lt = c.loop-group-test.true in omega arith) in
    let lt = c.loop-group-test.true in
    omega (arith, c.clash_at.ensures.count, c.loop-group.invariant.count, long, more, fewer, lt)

pub returns-in_err-push_lit-clause-size : goal.returns-in_err-push_lit-clause-size
returns-in_err-push_lit-clause-size c =
    let i = c.loop-group.group-index in
    let gs : List (List Entry) = c.args.groups.now in
    let at : c.slice.result.now ≡ group_at gs i = c.slice.ensures ∙ sym (group_is gs i c.group-item.result c.loop-group-test.true c.group-item.is) in
    let long : length c.slice.result.now ≡ length (group_at gs i) = ap (λ (es : List Entry). length es) at in
    let more = entries_more gs i in
    let fewer = entries_up gs (i + 1) (length gs) (let lt = c.loop-group-test.true in omega arith) in
    let lt = c.loop-group-test.true in
    omega (arith, c.clash_at.ensures.size, c.loop-group.invariant.size, long, more, fewer, lt)

pub returns-in_err-clash-clause-too_large : goal.returns-in_err-clash-clause-too_large
returns-in_err-clash-clause-too_large c =
    let i = c.loop-group.group-index in
    let gs : List (List Entry) = c.args.groups.now in
    let at : c.slice.result.now ≡ group_at gs i = c.slice.ensures ∙ sym (group_is gs i c.group-item.result c.loop-group-test.true c.group-item.is) in
    let long : length c.slice.result.now ≡ length (group_at gs i) = ap (λ (es : List Entry). length es) at in
    let more = entries_more gs i in
    let fewer = entries_up gs (i + 1) (length gs) (let lt = c.loop-group-test.true in omega arith) in
    let lt = c.loop-group-test.true in
    refused c.clash_at.result c.from_residual.result _ c.in_err-clash.was c.from_residual.ensures.1 c.clash_at.ensures.too_large
    (over_more _ _ _ _ (omega (arith, c.loop-group.invariant.count, long, more, fewer, lt)) (omega (arith, c.loop-group.invariant.size, long, more, fewer, lt)))

pub loop-group-preserved : goal.loop-group-preserved
loop-group-preserved c =
    let i = c.loop-group.group-index in
    let gs : List (List Entry) = c.args.groups.now in
    let at : c.slice.result.now ≡ group_at gs i = c.slice.ensures ∙ sym (group_is gs i c.group-item.result c.loop-group-test.true c.group-item.is) in
    let long : length c.slice.result.now ≡ length (group_at gs i) = ap (λ (es : List Entry). length es) at in
    let more = entries_more gs i in
    record {
      grows = grows_then _ _ _ [] [] [] [] c.loop-group.invariant.grows c.clash_at.ensures.grows;
      means = λ v t.
          ap (list_any (lit_true v)) c.in_ok-push_lit.ensures ∙ any_push (lit_true v) c.loop-group.clashes.items c.in_ok-clash.clash
          ∙ (λ j. c.loop-group.invariant.means v (c.clash_at.ensures.grows.holds v t) j || (c.in_ok-clash.ensures.means v t ∙ ap (λ (g : List Entry). two_true v (map (λ e. e.lit) g)) c.slice.ensures) j)
          ∙ sym (any_more (λ g. two_true v (map (λ e. e.lit) g)) gs i c.group-item.result c.loop-group-test.true c.group-item.is);
      within = omega (arith, ap clause_variables c.in_ok-push_lit.ensures, clause_push c.loop-group.clashes.items c.in_ok-clash.clash, c.loop-group.invariant.within, c.clash_at.ensures.grows.count, c.in_ok-clash.ensures.within);
      long = omega (arith, ap (λ (ls : List Lit). length ls) c.in_ok-push_lit.ensures, length_push c.loop-group.clashes.items c.in_ok-clash.clash, c.loop-group.invariant.long);
      count = omega (arith, c.clash_at.ensures.count, c.loop-group.invariant.count, long, more);
      size = omega (arith, c.clash_at.ensures.size, c.loop-group.invariant.size, long, more);
    }
