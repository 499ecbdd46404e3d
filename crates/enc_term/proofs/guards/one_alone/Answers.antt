use Rattle.std.proofs.Common.{◌∙◌, ap, sym, arith, Bool, List, [], ◌&&◌, ◌||◌, not, map, take}
use Rattle.std.specs.List.{list_any}
use Rattle.cnf_base.specs.Clauses.{lit_true}
use Rattle.cnf_gate.proofs.Growing.{grows_then}
use Rattle.enc_group.proofs.Groups.{map_more, take_all}
use Rattle.enc_term.specs.Guards.{two_true, exactly_one}
use Rattle.enc_term.proofs.Guarding.{clause_at, any_push, two_push, negated_true}
use Rattle.enc_term.proofs.guards.one_alone.Goals as goal

pub both-requires-clause-first : goal.both-requires-clause-first
both-requires-clause-first c =
    omega (arith, clause_at c.args.lits.now c.loop-lit.lit-index c.lit-item.result c.loop-lit-test.true c.lit-item.is, c.loop-lit.invariant.grows.count, c.requires)

pub either-requires-in-loop-lit-clause-second : goal.either-requires-in-loop-lit-clause-second
either-requires-in-loop-lit-clause-second c =
    omega (arith, clause_at c.args.lits.now c.loop-lit.lit-index c.lit-item.result c.loop-lit-test.true c.lit-item.is, c.loop-lit.invariant.grows.count, c.both.ensures.grows.count, c.either.ensures.grows.count, c.requires)

pub loop-lit-preserved : goal.loop-lit-preserved
loop-lit-preserved c =
    record {
      grows = grows_then _ _ _ [] [] [] [] (grows_then _ _ _ [] [] [] [] c.loop-lit.invariant.grows c.both.ensures.grows) (grows_then _ _ _ [] [] [] [] c.either.ensures.grows c.either-in-loop-lit.ensures.grows);
      seen = λ v t.
          let t1 = c.either-in-loop-lit.ensures.grows.holds v t in
          let t3 = c.both.ensures.grows.holds v (c.either.ensures.grows.holds v t1) in
          let more = map_more (lit_true v) c.args.lits.now c.loop-lit.lit-index c.lit-item.result c.loop-lit-test.true c.lit-item.is in
          c.in_ok-seen-2.ensures.means v t ∙ ap (λ b. b || lit_true v c.lit-item.result) (c.loop-lit.invariant.seen v t3)
          ∙ sym (ap (list_any (λ b. b)) more ∙ any_push (map (lit_true v) (take c.loop-lit.lit-index c.args.lits.now)) (lit_true v c.lit-item.result));
      twice = λ v t.
          let t1 = c.either-in-loop-lit.ensures.grows.holds v t in
          let t2 = c.either.ensures.grows.holds v t1 in
          let t3 = c.both.ensures.grows.holds v t2 in
          let more = map_more (lit_true v) c.args.lits.now c.loop-lit.lit-index c.lit-item.result c.loop-lit-test.true c.lit-item.is in
          let seen : List Bool = map (lit_true v) (take c.loop-lit.lit-index c.args.lits.now) in
          c.in_ok-twice-2.ensures.means v t1 ∙ ap (λ b. b || lit_true v c.in_ok-again.again) (c.loop-lit.invariant.twice v t3)
          ∙ ap (λ b. two_true seen || b) (c.in_ok-again.ensures.means v t2 ∙ ap (λ b. lit_true v c.lit-item.result && b) (c.loop-lit.invariant.seen v t3))
          ∙ sym (ap two_true more ∙ two_push seen (lit_true v c.lit-item.result));
      seen_within = c.in_ok-seen-2.ensures.within;
      twice_within = omega (arith, c.in_ok-twice-2.ensures.within, c.either-in-loop-lit.ensures.grows.count);
    }

pub returns-clause-means : goal.returns-clause-means
returns-clause-means c = λ v t.
    let kept = c.both-2.ensures.grows.holds v t in
    let whole = take_all c.args.lits.now c.loop-lit.lit-index c.loop-lit-test.false in
    c.in_ok-lit.ensures.means v t
    ∙ (λ i. c.loop-lit.invariant.seen v kept i && (negated_true v c.loop-lit.twice c.negated.result c.negated.ensures.value ∙ ap not (c.loop-lit.invariant.twice v kept)) i)
    ∙ ap (λ ls. exactly_one (map (lit_true v) ls)) whole
