use Rattle.std.proofs.Common.{◌-◌, get_or, ap, arith}
use Rattle.asm_calls.proofs.Gathering.{main_none, main_last}
use Rattle.asm_calls.proofs.gather.add_main.Goals as goal

pub returns-then-count-eq0 : goal.returns-then-count-eq0
returns-then-count-eq0 c = main_none c.args.names.now c.args.units.now c.args.callers.now (omega arith)

pub returns : goal.returns
returns c = main_last c.args.names.now c.args.units.now (c.in_ok-count.count - 1) (get_or c.args.units.now (c.in_ok-count.count - 1) c.index-units-last.result) c.args.callers.now _ (omega arith) (ap (get_or c.args.units.now (c.in_ok-count.count - 1)) c.index-units-last.is) c.in_ok-add_main_of.ensures
