use Rattle.std.proofs.Common.{◌≡◌, ℕ, length, false}
use Rattle.cnf_search.specs.Backs.{marked}
use Rattle.cnf_search.proofs.back.unmarked.Given as goal

abbrev pub invariant-loop : goal.invariant-loop
invariant-loop l = (length l.marks.items ≡ l.counter) × ((n : ℕ) → marked l.marks.items n ≡ false)
