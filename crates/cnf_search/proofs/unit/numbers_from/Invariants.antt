use Rattle.std.proofs.Common.{◌≡◌, ◌<◌, ◌≤◌, ℕ, eqb, true}
use Rattle.std.specs.List.{list_any}
use Rattle.cnf_search.proofs.unit.numbers_from.Given as goal

abbrev pub invariant-loop-number : goal.invariant-loop-number
invariant-loop-number l = (n : ℕ) → l.first ≤ n → n < l.number → list_any (eqb n) l.numbers.items ≡ true
