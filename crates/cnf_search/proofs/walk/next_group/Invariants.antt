use Rattle.std.proofs.Common.{◌≡◌, take, true}
use Rattle.cnf_gate.specs.Built.{is_decided}
use Rattle.cnf_search.specs.Trails.{values}
use Rattle.cnf_search.proofs.walk.next_group.Given as goal

abbrev pub invariant-loop-place : goal.invariant-loop-place
invariant-loop-place l = is_decided (values l.trace.entries) (take l.place l.groups) ≡ true
