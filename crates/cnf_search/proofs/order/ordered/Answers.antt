use Rattle.std.proofs.Common.{ap, ◌∙◌}
use Rattle.cnf_search.specs.Orders.{picked}
use Rattle.cnf_search.proofs.Ordered.{picked_permuted}
use Rattle.cnf_search.proofs.order.ordered.Goals as goal

pub returns : goal.returns
returns c =
    picked_permuted c.args.groups.now c.in_ok-picked.field-0.items c.in_ok-ranks.ranks.items c.sort_by_key.new.self.items c.in_ok-ranks.ensures c.in_ok-sort_by_key.ensures.permutation
    (c.in_ok-picked.ensures ∙ ap (picked c.args.groups.now) c.deref.ensures.value)
