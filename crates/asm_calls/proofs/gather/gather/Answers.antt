use Rattle.std.proofs.Common.{sym, ap, ◌∙◌, arith}
use Rattle.asm_tree.specs.declared.unit.LoadedUnit.{LoadedUnit}
use Rattle.asm_calls.specs.Callers.{callers_in}
use Rattle.asm_calls.proofs.Gathering.{units_next, units_done}
use Rattle.asm_calls.proofs.gather.gather.Goals as goal

pub units-preserved : goal.units-preserved
units-preserved c =
    units_next (callers_in c.args.part c.args.known.now c.args.names.now) c.args.units.now c.units.number c.index-units-number.result c.slice.result.now c.units.callers c.add_unit.new.callers _ (omega arith) c.index-units-number.is
    (c.slice.ensures ∙ ap (λ (u : LoadedUnit). u.unit.definitions) (sym c.index-units-number.is)) c.in_ok-add_unit.ensures c.units.invariant

pub returns : goal.returns
returns c = units_done (callers_in c.args.part c.args.known.now c.args.names.now) c.args.units.now c.units.number c.units.callers _ (omega arith) c.units.invariant
