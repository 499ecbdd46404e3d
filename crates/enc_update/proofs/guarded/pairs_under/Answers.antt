use Rattle.std.proofs.Common.{◌<◌, ◌∙◌, ap, sym, arith, [], length, Bool, ◌&&◌, ◌||◌, take, nat_eq}
use Rattle.std.specs.List.{list_any}
use Rattle.cnf_base.specs.Clauses.{lit_true}
use Rattle.asm_node.specs.Values.{same}
use Rattle.enc_update.specs.declared.pair.Pair.{Pair}
use Rattle.enc_update.specs.Updates.{has_pair, pair_variables}
use Rattle.cnf_gate.proofs.Growing.{grows_then}
use Rattle.enc_group.proofs.Groups.{any_more, any_whole, length_push, over_more, refused}
use Rattle.enc_update.proofs.Guards.{pair_at, has_pair_push, pair_variables_push, spread}
use Rattle.enc_update.proofs.guarded.pairs_under.Goals as goal

pub both-requires-clause-second : goal.both-requires-clause-second
both-requires-clause-second c =
    omega (arith, pair_at c.args.pairs.now c.loop-pair.pair-index c.pair-item.result c.loop-pair-test.true c.pair-item.is, c.loop-pair.invariant.grows.count, c.requires.pairs)

pub loop-pair-preserved : goal.loop-pair-preserved
loop-pair-preserved c =
    let p : Pair = record { slot = c.pair-item.result.slot; value = c.pair-item.result.value; lit = c.in_ok-lit.lit } in
    record {
      grows = grows_then _ _ _ [] [] [] [] c.loop-pair.invariant.grows c.both.ensures.grows;
      means = λ v t s x.
          let q : Pair → Bool = λ p. (nat_eq p.slot s && same p.value x) && lit_true v p.lit in
          let here = nat_eq c.pair-item.result.slot s && same c.pair-item.result.value x in
          ap (λ ps. has_pair v ps s x) c.in_ok-add_pair.ensures ∙ has_pair_push v c.loop-pair.under p s x
          ∙ ap (λ b. b || (here && lit_true v c.in_ok-lit.lit)) (c.loop-pair.invariant.means v (c.both.ensures.grows.holds v t) s x)
          ∙ ap (λ b. (lit_true v c.args.guard && list_any q (take c.loop-pair.pair-index c.args.pairs.now)) || (here && b)) (c.in_ok-lit.ensures.means v t)
          ∙ spread (lit_true v c.args.guard) (list_any q (take c.loop-pair.pair-index c.args.pairs.now)) here (lit_true v c.pair-item.result.lit)
          ∙ ap (λ b. lit_true v c.args.guard && b) (sym (any_more q c.args.pairs.now c.loop-pair.pair-index c.pair-item.result c.loop-pair-test.true c.pair-item.is));
      long = omega (arith, ap length c.in_ok-add_pair.ensures, length_push c.loop-pair.under p, c.loop-pair.invariant.long);
      within = omega (arith, ap pair_variables c.in_ok-add_pair.ensures, pair_variables_push c.loop-pair.under p, c.loop-pair.invariant.within, c.both.ensures.grows.count, c.in_ok-lit.ensures.within);
      count = omega (arith, c.loop-pair.invariant.count, c.both.ensures.count);
      size = omega (arith, c.loop-pair.invariant.size, c.both.ensures.size);
    }

pub returns-clause-means : goal.returns-clause-means
returns-clause-means c = λ v t s x.
    c.loop-pair.invariant.means v t s x ∙ ap (λ b. lit_true v c.args.guard && b) (any_whole (λ p. (nat_eq p.slot s && same p.value x) && lit_true v p.lit) c.args.pairs.now c.loop-pair.pair-index c.loop-pair-test.false)

pub returns-in_err-lit-clause-too_large : goal.returns-in_err-lit-clause-too_large
returns-in_err-lit-clause-too_large c =
    let before : c.loop-pair.pair-index < length c.args.pairs.now = c.loop-pair-test.true in
    refused c.both.result c.from_residual.result _ c.in_err-lit.was c.from_residual.ensures.1 c.both.ensures.too_large
    (over_more _ _ _ _ (omega (arith, before, c.loop-pair.invariant.count)) (omega (arith, before, c.loop-pair.invariant.size)))
