use Rattle.std.proofs.Common.{refl, arith}
use Rattle.asm_declare.proofs.Targeting.{numbers_more, numbers_all}
use Rattle.asm_declare.proofs.targets.numerals.Goals as goal

pub loop-place-init : goal.loop-place-init
loop-place-init c = refl

pub loop-place-preserved : goal.loop-place-preserved
loop-place-preserved c =
    numbers_more c.args.first.now c.loop-place.first c.note_repeated.new.first c.args.number c.args.numbers.now c.loop-place.place c.index-numbers-place.result c.is_among-repeated.result (omega arith) c.index-numbers-place.is c.is_among-repeated.ensures c.loop-place.invariant c.in_ok-note_repeated.ensures

pub returns : goal.returns
returns c = numbers_all c.args.first.now c.loop-place.first c.args.number c.args.numbers.now c.loop-place.place (omega arith) c.loop-place.invariant
