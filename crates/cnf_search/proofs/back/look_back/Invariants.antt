use Rattle.std.proofs.Common.{◌≡◌, ◌≤◌, length, drop}
use Rattle.cnf_search.specs.Trails.{entries_of}
use Rattle.cnf_search.specs.Passes.{pass, begun}
use Rattle.cnf_search.specs.Backs.{told, late_at}
use Rattle.cnf_search.specs.Lines.{known}
use Rattle.cnf_search.proofs.back.look_back.Given as goal

abbrev pub invariant-loop-place : goal.invariant-loop-place
invariant-loop-place l =
    (length l.learning.seen.items ≡ l.fn.count)
    × (l.place ≤ length l.fn.lits)
    × (told l.learning ≡ pass (known l.fn.checker) (late_at (entries_of l.fn.lits l.fn.reasons) l.place) l.place (drop l.place (entries_of l.fn.lits l.fn.reasons)) (begun l.fn.conflict))

abbrev pub decreases-loop-place : goal.decreases-loop-place
decreases-loop-place l = l.place
