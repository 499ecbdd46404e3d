use Rattle.std.proofs.Common.{◌-◌, arith}
use Rattle.asm_declare.proofs.Entering.{none_last, main_entered, no_main_entered}
use Rattle.asm_declare.proofs.naming.last_name.Goals as goal

pub returns-then-count-eq0 : goal.returns-then-count-eq0
returns-then-count-eq0 c = none_last c.args.units.now (omega arith)

pub returns-in_ok-enter-in-Some : goal.returns-in_ok-enter-in-Some
returns-in_ok-enter-in-Some c =
    main_entered c.args.units.now (c.args.count - 1) c.index-units-last.result c.in-Some.main (omega arith) c.index-units-last.is c.in-Some.is c.in_ok-enter-in-Some.ensures

pub returns-in-None : goal.returns-in-None
returns-in-None c = no_main_entered c.args.units.now (c.args.count - 1) c.index-units-last.result (omega arith) c.index-units-last.is c.in-None.is
