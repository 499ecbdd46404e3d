use Rattle.asm_declare.proofs.Entering.{none_entered, entered_more, entered_all}
use Rattle.asm_declare.proofs.enter.enter_all.Goals as goal

pub loop-name-init : goal.loop-name-init
loop-name-init c = none_entered

pub loop-name-preserved : goal.loop-name-preserved
loop-name-preserved c =
    entered_more c.args.unit c.args.more.now c.loop-name.name-index c.name-item.result c.loop-name-test.true c.name-item.is c.loop-name.invariant c.in_ok-enter.ensures

pub returns : goal.returns
returns c = entered_all c.args.unit c.args.more.now c.loop-name.name-index c.loop-name-test.false c.loop-name.invariant
