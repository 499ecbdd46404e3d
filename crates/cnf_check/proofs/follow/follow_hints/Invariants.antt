use Rattle.std.proofs.Common.{◌≡◌, drop}
use Rattle.cnf_base.specs.Known.{value_of}
use Rattle.cnf_base.specs.Derivation.{follow}
use Rattle.cnf_check.specs.Checked.{clauses_after}
use Rattle.cnf_check.proofs.follow.follow_hints.Given as goal

abbrev pub invariant-loop-i : goal.invariant-loop-i
invariant-loop-i l =
    (follow (clauses_after l.formula l.lines) (value_of l.initial.trail.lits) 0 l.hints
    ≡ follow (clauses_after l.formula l.lines) (value_of l.trail.lits) l.i (drop l.i l.hints))
    × (l.trail.size ≡ l.initial.trail.size)
