use Rattle.std.proofs.Common.{arith}
use Rattle.cnf_base.proofs.VariableBounds.{clause_read}
use Rattle.cnf_search.proofs.walk.next_group.Goals as goal

pub has_true-requires : goal.has_true-requires
has_true-requires c = omega (arith, clause_read c.args.groups.now c.loop-place.place c.index-groups-place.result (omega arith) c.index-groups-place.is, c.requires.room)
