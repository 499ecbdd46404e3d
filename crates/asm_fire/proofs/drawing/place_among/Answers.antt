use Rattle.std.proofs.Common.{◌≡◌, sym, subst}
use Rattle.std.specs.Prelude.{IsTrue, ◌↔◌}
use Rattle.asm_fire.proofs.Placing.{is_here, is_later}
use Rattle.asm_fire.proofs.drawing.place_among.Goals as goal

pub returns-then-same_tuple-clause-place : goal.returns-then-same_tuple-clause-place
returns-then-same_tuple-clause-place c =
    sym (is_here c.args.tuple.now c.args.found.now c.loop-place.place c.index-found-place.result c.loop-place-test.true c.index-found-place.is c.same_tuple.result c.if-same_tuple.true
    (subst (λ t. IsTrue c.same_tuple.result ↔ (t ≡ c.args.tuple.now)) c.slice.ensures c.same_tuple.ensures) c.loop-place.invariant)

pub loop-place-preserved : goal.loop-place-preserved
loop-place-preserved c =
    is_later c.args.tuple.now c.args.found.now c.loop-place.place c.index-found-place.result c.loop-place-test.true c.index-found-place.is c.same_tuple.result c.if-same_tuple.false
    (subst (λ t. IsTrue c.same_tuple.result ↔ (t ≡ c.args.tuple.now)) c.slice.ensures c.same_tuple.ensures) c.loop-place.invariant
