use Rattle.std.proofs.Common.{refl, arith}
use Rattle.asm_declare.proofs.Targeting.{among_more, among_all}
use Rattle.asm_declare.proofs.targets.is_among.Goals as goal

pub loop-at-init : goal.loop-at-init
loop-at-init c = refl

pub loop-at-preserved : goal.loop-at-preserved
loop-at-preserved c =
    among_more c.args.numeral.now.value c.args.numbers.now c.loop-at.at c.index-numbers-at.result c.loop-at.among c.same_value.result c.either-among.result (omega arith) c.index-numbers-at.is c.loop-at.invariant c.same_value.ensures c.either-among.ensures

pub returns : goal.returns
returns c = among_all c.args.numeral.now.value c.args.numbers.now c.loop-at.at c.args.place c.loop-at.among (omega arith) c.loop-at.invariant
