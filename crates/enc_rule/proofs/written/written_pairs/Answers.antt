use Rattle.std.proofs.Common.{◌∙◌, ap, sym, arith, [], List, Option, ℕ, ◌&&◌, ◌||◌, take, subst}
use Rattle.cnf_base.specs.Clauses.{lit_true}
use Rattle.cnf_gate.proofs.Growing.{grows_then}
use Rattle.asm_domain.specs.Universe.{IsRank}
use Rattle.asm_domain.specs.declared.value.Value.{Value}
use Rattle.asm_sign.specs.Vocabulary.{locations}
use Rattle.asm_node.specs.Machine.{slot_at}
use Rattle.asm_node.proofs.Slots.{slot_is}
use Rattle.enc_group.specs.declared.tuple.Tuple.{Tuple}
use Rattle.enc_group.proofs.Groups.{any_more, take_all}
use Rattle.enc_group.proofs.Tuples.{tuple_variables_at}
use Rattle.enc_rule.specs.Written.{some_value, some_written}
use Rattle.enc_rule.proofs.written.written_pairs.Goals as goal

pub add_at-requires-clause-guard : goal.add_at-requires-clause-guard
add_at-requires-clause-guard c =
    omega (arith, tuple_variables_at c.args.arguments.now c.loop-tuple.tuple-index c.tuple-item.result c.loop-tuple-test.true c.tuple-item.is, c.loop-tuple.invariant.grows.count, c.requires.arguments)

pub loop-tuple-preserved : goal.loop-tuple-preserved
loop-tuple-preserved c = record {
  grows = grows_then _ _ _ [] [] [] [] c.loop-tuple.invariant.grows c.add_at.ensures.grows;
  means = λ v t q.
      let rank = subst (λ (vs : List Value). IsRank (locations c.args.signature.now) (c.args.function, vs) c.slot_of-slot.result) c.slice.ensures c.slot_of-slot.ensures.rank in
      let slot = slot_is c.args.signature.now c.args.function c.tuple-item.result.values c.slot_of-slot.result rank in
      let seen = some_written v q c.args.signature.now c.args.function c.args.values.now (take c.loop-tuple.tuple-index c.args.arguments.now) in
      c.in_ok-add_at.ensures.means v t q
      ∙ ap (λ b. b || (some_value v q c.args.values.now c.slot_of-slot.result && lit_true v c.tuple-item.result.lit)) (c.loop-tuple.invariant.means v (c.add_at.ensures.grows.holds v t) q)
      ∙ ap (λ (s : Option ℕ). seen || (some_value v q c.args.values.now s && lit_true v c.tuple-item.result.lit)) (sym slot)
      ∙ sym (any_more (λ (e : Tuple). some_value v q c.args.values.now (slot_at c.args.signature.now c.args.function e.values) && lit_true v e.lit) c.args.arguments.now c.loop-tuple.tuple-index c.tuple-item.result c.loop-tuple-test.true c.tuple-item.is);
  within = c.in_ok-add_at.ensures.within;
}

pub returns-clause-means : goal.returns-clause-means
returns-clause-means c = λ v t q.
    c.loop-tuple.invariant.means v t q
    ∙ ap (some_written v q c.args.signature.now c.args.function c.args.values.now) (take_all c.args.arguments.now c.loop-tuple.tuple-index c.loop-tuple-test.false)
