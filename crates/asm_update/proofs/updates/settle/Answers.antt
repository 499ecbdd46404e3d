use Rattle.std.proofs.Common.{◌∙◌, rules, ap, refl}
use Rattle.std.specs.Ordering.{eq_by_cmp}
use Rattle.std.proofs.lemmas.Fn.{dedup_same}
use Rattle.std.proofs.lemmas.List.Kept.{IsStrictlySortedBy-dedup}
use Rattle.std.proofs.lemmas.Map.Views.{tells_apart}
use Rattle.asm_node.proofs.UpdateSets.{of_list}
use Rattle.asm_update.specs.Order.{rank_cmp}
use Rattle.asm_update.proofs.Ordered.{rank_total, rank_apart, of_list-dedup, of_list-permutation}
use Rattle.asm_update.proofs.updates.settle.Goals as goal

pub returns-clause-same : goal.returns-clause-same
returns-clause-same c =
    let is = dedup_same _ (eq_by_cmp rank_cmp) _ (λ x y b f' x' y' k. search rules) _ _ c.dedup_by.ensures.filtered in
    ap of_list is ∙ of_list-dedup (eq_by_cmp rank_cmp) (tells_apart rank_apart) _ ∙ of_list-permutation _ _ c.sort.ensures.same

pub returns-clause-sorted : goal.returns-clause-sorted
returns-clause-sorted c =
    let is = dedup_same _ (eq_by_cmp rank_cmp) _ (λ x y b f' x' y' k. search rules) _ _ c.dedup_by.ensures.filtered in
    rw is (IsStrictlySortedBy-dedup rank_total (λ p q. refl) _ c.sort.ensures.sorted)
