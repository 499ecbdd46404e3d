use Rattle.std.proofs.Common.{refl, arith}
use Rattle.asm_faults.specs.FunctionFaults.{own_faults}
use Rattle.asm_declare.proofs.Owning.{units_own_more, units_own_all}
use Rattle.asm_declare.proofs.own.all_own.Goals as goal

pub loop-number-init : goal.loop-number-init
loop-number-init c = refl

pub loop-number-preserved : goal.loop-number-preserved
loop-number-preserved c =
    units_own_more (own_faults c.args.numbers.now) c.args.first.now c.loop-number.first c.unit_own.new.first c.args.units.now c.loop-number.number c.index-units-number.result c.slice.result.now c.slice.ensures (omega arith) c.index-units-number.is c.loop-number.invariant c.in_ok-unit_own.ensures

pub returns : goal.returns
returns c = units_own_all (own_faults c.args.numbers.now) c.args.first.now c.loop-number.first c.args.units.now c.loop-number.number (omega arith) c.loop-number.invariant
