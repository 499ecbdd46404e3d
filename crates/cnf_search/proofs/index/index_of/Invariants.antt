use Rattle.std.proofs.Common.{◌≡◌, ◌*◌, length}
use Rattle.cnf_search.proofs.Named.{IsBegun}
use Rattle.cnf_search.proofs.index.index_of.Given as goal

abbrev pub invariant-loop-number : goal.invariant-loop-number
invariant-loop-number l = IsBegun l.formula l.lists.items l.number × (length l.lists.items ≡ 2 * l.count)
