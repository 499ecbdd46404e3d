use Rattle.cnf_gate.proofs.Climbs.{Climbs}
use Rattle.cnf_gate.proofs.ladder.group_clauses.Given as goal

abbrev pub invariant-loop-i : goal.invariant-loop-i
invariant-loop-i l = Climbs l.clauses.items l.first l.i l.lits l.some
