use Rattle.std.proofs.Common.{◌≡◌, length, take}
use Rattle.cnf_search.specs.Queue.{Names}
use Rattle.cnf_search.proofs.index.add_clause.Given as goal

abbrev pub invariant-loop-lit : goal.invariant-loop-lit
invariant-loop-lit l = Names l.initial.lists.items l.lists.items (take l.lit-index l.lit-items) l.number × (length l.lists.items ≡ length l.initial.lists.items)
