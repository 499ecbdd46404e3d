use Rattle.std.proofs.Common.{◌≡◌}
use Rattle.cnf_search.specs.Lines.{known}
use Rattle.cnf_search.proofs.Visits.{Visits}
use Rattle.cnf_search.proofs.unit.visit.Given as goal

abbrev pub invariant-loop-number : goal.invariant-loop-number
invariant-loop-number l = Visits (known l.checker) l.initial.trace.entries l.trace.entries l.numbers l.number-index × (l.trace.size ≡ l.initial.trace.size)
