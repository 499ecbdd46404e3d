use Rattle.std.proofs.Common.{◌-◌, length, get_or, ap, refl, arith}
use Rattle.asm_calls.proofs.Placing.{placed_begin, placed_turn, number_short, placed_all}
use Rattle.asm_calls.proofs.places.places.Goals as goal

pub definitions-init : goal.definitions-init
definitions-init c = placed_begin c.args.known.now c.args.definitions.now c.in_ok-count.count _ c.in_ok-count.ensures c.new-places.ensures.items

pub definitions-preserved : goal.definitions-preserved
definitions-preserved c = (
  placed_turn c.args.known.now c.args.definitions.now c.in_ok-count.count c.definitions.behind (c.in_ok-count.count - 1 - c.definitions.behind) (get_or c.args.definitions.now (c.in_ok-count.count - 1 - c.definitions.behind) c.index-definitions-place.result) c.definitions.places.items c.set_place.new.places.items c.function_number-number.result c.in_ok-count.ensures (omega arith) refl (ap (get_or c.args.definitions.now (c.in_ok-count.count - 1 - c.definitions.behind)) c.index-definitions-place.is) c.function_number-number.ensures c.definitions.invariant.0 c.in_ok-set_place.ensures.places,
  c.in_ok-set_place.ensures.short (length c.args.known.now.functions) c.definitions.invariant.1 (number_short c.args.known.now (get_or c.args.definitions.now (c.in_ok-count.count - 1 - c.definitions.behind) c.index-definitions-place.result).name c.function_number-number.result c.function_number-number.ensures),
)

pub returns : goal.returns
returns c = placed_all c.args.known.now c.args.definitions.now c.in_ok-count.count c.definitions.behind _ c.definitions.places.items (omega arith) c.from_vec.ensures c.definitions.invariant.0 c.definitions.invariant.1
