use Rattle.std.proofs.Common.{rules, arith, sym, ◌∙◌}
use Rattle.std.proofs.lemmas.Grind.{common_steps}
use Rattle.asm_body.specs.Phrases.{seen_phrase}
use Rattle.asm_body.specs.Seen.{seen, all_seen}
use Rattle.asm_body.proofs.Sides.{turn_full, turn_stops, turn_gives, turn_ends}
use Rattle.asm_body.proofs.terms.Terms.chained.Goals as goal

pub returns-in_err-operator : goal.returns-in_err-operator
returns-in_err-operator g c =
    let e = turn_full c.args.chain c.args.self.now.script _ c.turns.free (seen_phrase c.turns.left) (all_seen c.turns.rest.now) c.turns.invariant.value _ c.operators-wanted.ensures _ c.inner_level-level.ensures (sym c.begins_among.ensures ∙ c.turns-test.true) in
    first_of (search rules, grind (arith, common_steps))

pub returns-in_err-right : goal.returns-in_err-right
returns-in_err-right g c =
    let e = turn_stops c.args.chain c.args.self.now.script _ c.turns.free (seen_phrase c.turns.left) (all_seen c.turns.rest.now) c.turns.invariant.value _ c.operators-wanted.ensures _ c.inner_level-level.ensures (sym c.begins_among.ensures ∙ c.turns-test.true)
    (seen c.in_ok-operator.operator.now) c.in_ok-operator.fewer (all_seen c.in_ok-operator.after.now) c.in_ok-operator.ensures.gives in
    first_of (search rules, grind (arith, common_steps))

pub turns-preserved : goal.turns-preserved
turns-preserved g c = record {
  value = rw c.in_ok-left.ensures (turn_gives c.args.chain c.args.self.now.script _ c.turns.free (seen_phrase c.turns.left) (all_seen c.turns.rest.now) c.turns.invariant.value _ c.operators-wanted.ensures _ c.inner_level-level.ensures (sym c.begins_among.ensures ∙ c.turns-test.true)
      (seen c.in_ok-operator.operator.now) c.in_ok-operator.fewer (all_seen c.in_ok-operator.after.now) c.in_ok-operator.ensures.gives (seen_phrase c.in_ok-right.right) (all_seen c.in_ok-right.after.now) c.in_ok-right.ensures);
  fewer = omega (arith, c.in_ok-operator.ensures.less);
}

pub returns : goal.returns
returns g c = turn_ends c.args.chain c.args.self.now.script _ c.turns.free (seen_phrase c.turns.left) (all_seen c.turns.rest.now) c.turns.invariant.value _ c.operators-wanted.ensures _ c.inner_level-level.ensures (sym c.begins_among.ensures ∙ c.turns-test.false)
