use Rattle.std.proofs.Common.{◌≡◌, ◌++◌, List, length, true}
use Rattle.cnf_search.specs.Levels.{starts_at}
use Rattle.cnf_search.specs.declared.level.Level.{Level}
use Rattle.cnf_search.proofs.level.take_off.Given as goal

abbrev pub invariant-loop-level : goal.invariant-loop-level
invariant-loop-level l = (starts_at l.levels.items l.start ≡ true) × (later : List Level) × (l.initial.levels.items ≡ l.levels.items ++ later)

abbrev pub decreases-loop-level : goal.decreases-loop-level
decreases-loop-level l = length l.levels.items
