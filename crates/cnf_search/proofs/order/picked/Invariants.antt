use Rattle.std.proofs.Common.{◌≡◌, take}
use Rattle.cnf_search.specs.Orders.{picked}
use Rattle.cnf_search.proofs.order.picked.Given as goal

abbrev pub invariant-loop-ranked : goal.invariant-loop-ranked
invariant-loop-ranked l = l.list.items ≡ picked l.groups (take l.ranked-index l.ranks)
