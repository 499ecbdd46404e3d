use Rattle.std.proofs.Common.{◌-◌, get_or, ap, arith}
use Rattle.asm_calls.proofs.Gathering.{initials_none, initials_last}
use Rattle.asm_calls.proofs.gather.initials.Goals as goal

pub returns-then-count-eq0 : goal.returns-then-count-eq0
returns-then-count-eq0 c = initials_none c.args.known.now c.args.units.now _ c.new-callers.ensures (omega arith)

pub returns : goal.returns
returns c = initials_last c.args.known.now c.args.units.now (c.in_ok-count.count - 1) (get_or c.args.units.now (c.in_ok-count.count - 1) c.index-units-last.result) _ _ c.new-callers.ensures (omega arith) (ap (get_or c.args.units.now (c.in_ok-count.count - 1)) c.index-units-last.is) c.in_ok-add_initials.ensures
