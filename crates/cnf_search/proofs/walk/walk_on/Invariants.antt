use Rattle.cnf_search.specs.Walks.{IsWalking, IsKept, ahead}
use Rattle.cnf_search.proofs.walk.walk_on.Given as goal

abbrev pub invariant-loop-end : goal.invariant-loop-end
invariant-loop-end l = IsWalking l.groups l.walk × IsKept l.initial.walk.checker.formula l.initial.walk.budget l.walk

abbrev pub decreases-loop-end : goal.decreases-loop-end
decreases-loop-end l = ahead l.groups l.walk
