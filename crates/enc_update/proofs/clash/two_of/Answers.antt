use Rattle.std.proofs.Common.{◌∙◌, ap, sym, arith, [], ◌&&◌, ◌||◌, take}
use Rattle.cnf_base.specs.Clauses.{lit_true}
use Rattle.enc_update.specs.Updates.{two_true}
use Rattle.cnf_gate.proofs.Growing.{grows_then}
use Rattle.enc_group.proofs.Groups.{any_more}
use Rattle.enc_update.proofs.Twice.{clause_at, two_more}
use Rattle.enc_update.proofs.clash.two_of.Goals as goal

pub both-requires-clause-first : goal.both-requires-clause-first
both-requires-clause-first c =
    omega (arith, clause_at c.args.lits.now c.loop-lit.lit-index c.lit-item.result c.loop-lit-test.true c.lit-item.is, c.loop-lit.invariant.grows.count, c.requires)

pub either-requires-in-loop-lit-clause-second : goal.either-requires-in-loop-lit-clause-second
either-requires-in-loop-lit-clause-second c =
    omega (arith, clause_at c.args.lits.now c.loop-lit.lit-index c.lit-item.result c.loop-lit-test.true c.lit-item.is, c.loop-lit.invariant.grows.count, c.both.ensures.grows.count, c.either.ensures.grows.count, c.requires)

pub loop-lit-preserved : goal.loop-lit-preserved
loop-lit-preserved c = record {
  grows = grows_then _ _ _ [] [] [] [] (grows_then _ _ _ [] [] [] [] c.loop-lit.invariant.grows c.both.ensures.grows) (grows_then _ _ _ [] [] [] [] c.either.ensures.grows c.either-in-loop-lit.ensures.grows);
  seen = λ v t.
      let t1 = c.either-in-loop-lit.ensures.grows.holds v t in
      let t3 = c.both.ensures.grows.holds v (c.either.ensures.grows.holds v t1) in
      c.in_ok-seen-2.ensures.means v t ∙ ap (λ b. b || lit_true v c.lit-item.result) (c.loop-lit.invariant.seen v t3)
      ∙ sym (any_more (lit_true v) c.args.lits.now c.loop-lit.lit-index c.lit-item.result c.loop-lit-test.true c.lit-item.is);
  twice = λ v t.
      let t1 = c.either-in-loop-lit.ensures.grows.holds v t in
      let t2 = c.either.ensures.grows.holds v t1 in
      let t3 = c.both.ensures.grows.holds v t2 in
      c.in_ok-twice-2.ensures.means v t1 ∙ ap (λ b. b || lit_true v c.in_ok-again.again) (c.loop-lit.invariant.twice v t3)
      ∙ ap (λ b. two_true v (take c.loop-lit.lit-index c.args.lits.now) || b) (c.in_ok-again.ensures.means v t2 ∙ ap (λ b. lit_true v c.lit-item.result && b) (c.loop-lit.invariant.seen v t3))
      ∙ sym (two_more v c.args.lits.now c.loop-lit.lit-index c.lit-item.result c.loop-lit-test.true c.lit-item.is);
  seen_within = c.in_ok-seen-2.ensures.within;
  twice_within = omega (arith, c.in_ok-twice-2.ensures.within, c.either-in-loop-lit.ensures.grows.count);
  count = omega (arith, c.loop-lit.invariant.count, c.both.ensures.count, c.either.ensures.count, c.either-in-loop-lit.ensures.count);
  size = omega (arith, c.loop-lit.invariant.size, c.both.ensures.size, c.either.ensures.size, c.either-in-loop-lit.ensures.size);
}
