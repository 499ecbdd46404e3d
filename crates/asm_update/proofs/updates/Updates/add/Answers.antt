use Rattle.std.proofs.Common.{◌<◌, ◌≤◌, length, ◌∙◌, ap, sym, subst, arith}
use Rattle.std.specs.FinSet as set
use Rattle.std.specs.Ordering.{is_ne}
use Rattle.std.specs.List.Sorted.{IsStrictlySortedBy}
use Rattle.asm_node.proofs.UpdateSets.{of_list}
use Rattle.asm_update.specs.Order.{rank_cmp, AreBefore, AreNotBefore}
use Rattle.asm_update.proofs.Ordered.{either, insert_in_order, of_list-insert, of_list-there, get_or_any, tied, untied}
use Rattle.asm_update.proofs.updates.Updates.add.Goals as goal
use Rattle.asm_update.proofs.updates.Updates.add.Goals.{then-place-len-via-then-place-len, then-place-len-via-else-place-len+then-is_ne}

pub invariant_of-self : goal.invariant_of-self
invariant_of-self c =
    subst (IsStrictlySortedBy rank_cmp) (sym c.insert.ensures.items)
    (either (IsStrictlySortedBy rank_cmp) _ _ _
    (insert_in_order _ _ _ c.self.invariant
    (subst (λ ps. AreBefore (c.args.slot, c.args.value) ps c.place_of-place.result) c.deref.ensures.value c.place_of-place.ensures.before)
    (subst (λ ps. AreNotBefore (c.args.slot, c.args.value) ps c.place_of-place.result) c.deref.ensures.value c.place_of-place.ensures.after)
    (subst (λ ps. c.place_of-place.result ≤ length ps) c.deref.ensures.value c.place_of-place.ensures.within)
    (λ d lt is. elim c.then-place-len.branch [
      | then-place-len-via-then-place-len w ↦ omega (arith, lt, w.if-place-len.true, c.len.ensures, c.deref.ensures.len, ap length c.deref.ensures.value)
      | then-place-len-via-else-place-len+then-is_ne w ↦ untied w.index.result.now (c.args.slot, c.args.value) (ap is_ne (sym w.order.ensures) ∙ sym w.is_ne.ensures ∙ w.if-is_ne.true) (w.index.ensures ∙ get_or_any _ _ _ d lt ∙ is)
    ]))
    c.self.invariant)

pub returns-in_ok-insert-clause-ok : goal.returns-in_ok-insert-clause-ok
returns-in_ok-insert-clause-ok c =
    ap of_list c.in_ok-insert.ensures.items ∙ of_list-insert _ _ _ ∙ ap (λ u. set.insert u (c.args.slot, c.args.value)) c.self.view_is

pub returns-else-is_ne-clause-ok : goal.returns-else-is_ne-clause-ok
returns-else-is_ne-clause-ok c =
    let lt : c.place_of-place.result < length c.self.inside.pairs.items = omega (arith, c.if-place-len.false, c.place_of-place.ensures.within, c.len.ensures, c.deref.ensures.len, ap length c.deref.ensures.value) in
    let is = tied c.index.result.now (c.args.slot, c.args.value) (ap is_ne (sym c.order.ensures) ∙ sym c.is_ne.ensures ∙ c.if-is_ne.false) in
    sym c.self.view_is ∙ of_list-there c.self.inside.pairs.items c.place_of-place.result c.index.result.now _ lt (sym c.index.ensures ∙ is)
    ∙ ap (λ u. set.insert u (c.args.slot, c.args.value)) c.self.view_is
