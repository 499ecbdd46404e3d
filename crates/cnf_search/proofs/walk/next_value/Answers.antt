use Rattle.std.proofs.Common.{arith}
use Rattle.cnf_base.proofs.VariableBounds.{var_read}
use Rattle.cnf_search.proofs.walk.next_value.Goals as goal

pub is_open-requires : goal.is_open-requires
is_open-requires c = omega (arith, var_read c.args.group.now c.loop-place.place c.index-group-place.result (omega arith) c.index-group-place.is, c.requires)
