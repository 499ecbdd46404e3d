use Rattle.std.proofs.Common.{◌≡◌, take}
use Rattle.cnf_search.specs.Orders.{picked}
use Rattle.cnf_search.proofs.order.ranks_of.Given as goal

abbrev pub invariant-loop-place : goal.invariant-loop-place
invariant-loop-place l = picked l.groups l.ranks.items ≡ take l.place l.groups
