use Rattle.std.proofs.Common.{◌∙◌, ap, sym, arith, [], List, ◌&&◌, ◌||◌, take, Some}
use Rattle.cnf_base.specs.Clauses.{lit_true}
use Rattle.cnf_gate.proofs.Growing.{grows_then}
use Rattle.enc_group.specs.declared.group.Entry.{Entry}
use Rattle.enc_group.proofs.Groups.{any_more, take_all, variables_at}
use Rattle.enc_update.specs.declared.pair.Pair.{Pair}
use Rattle.enc_update.specs.Updates.{pair_variables}
use Rattle.enc_update.proofs.Guards.{pair_variables_push}
use Rattle.enc_rule.specs.Written.{some_pair, some_value}
use Rattle.enc_rule.proofs.Writing.{pair_push, shared}
use Rattle.enc_rule.proofs.written.add_values.Goals as goal

pub both-requires-clause-second : goal.both-requires-clause-second
both-requires-clause-second c =
    omega (arith, variables_at c.args.values.now c.loop-entry.entry-index c.entry-item.result c.loop-entry-test.true c.entry-item.is, c.loop-entry.invariant.grows.count, c.requires.values)

pub loop-entry-preserved : goal.loop-entry-preserved
loop-entry-preserved c =
    let p : Pair = record { slot = c.args.slot; value = c.entry-item.result.value; lit = c.in_ok-lit.lit } in
    record {
      grows = grows_then _ _ _ [] [] [] [] c.loop-entry.invariant.grows c.both.ensures.grows;
      means = λ v t q.
          let was = some_pair v c.args.pairs.now q in
          let seen = some_value v q (take c.loop-entry.entry-index c.args.values.now) (Some c.args.slot) in
          let here = q c.args.slot c.entry-item.result.value in
          let on = lit_true v c.args.guard in
          ap (λ (ps : List Pair). some_pair v ps q) c.in_ok-push_pair.ensures ∙ pair_push v c.loop-entry.pairs p q
          ∙ ap (λ b. b || (here && lit_true v c.in_ok-lit.lit)) (c.loop-entry.invariant.means v (c.both.ensures.grows.holds v t) q)
          ∙ ap (λ b. (was || (seen && on)) || (here && b)) (c.in_ok-lit.ensures.means v t)
          ∙ shared was seen on here (lit_true v c.entry-item.result.lit)
          ∙ ap (λ b. was || (b && on)) (sym (any_more (λ (e : Entry). q c.args.slot e.value && lit_true v e.lit) c.args.values.now c.loop-entry.entry-index c.entry-item.result c.loop-entry-test.true c.entry-item.is));
      within = omega (arith, ap pair_variables c.in_ok-push_pair.ensures, pair_variables_push c.loop-entry.pairs p, c.loop-entry.invariant.within, c.both.ensures.grows.count, c.in_ok-lit.ensures.within);
    }

pub returns-clause-means : goal.returns-clause-means
returns-clause-means c = λ v t q.
    c.loop-entry.invariant.means v t q
    ∙ ap (λ es. some_pair v c.args.pairs.now q || (some_value v q es (Some c.args.slot) && lit_true v c.args.guard)) (take_all c.args.values.now c.loop-entry.entry-index c.loop-entry-test.false)
