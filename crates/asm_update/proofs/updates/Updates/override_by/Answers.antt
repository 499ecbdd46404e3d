use Rattle.std.proofs.Common.{◌∙◌, ap, not, arith}
use Rattle.std.specs.FinSet as set
use Rattle.asm_node.specs.UpdateSet.{touches}
use Rattle.asm_node.proofs.UpdateSets.{of_list, of_list-append, of_list-filter}
use Rattle.asm_update.proofs.updates.Updates.override_by.Goals as goal

pub invariant_of-self-in_err-extend_from_slice : goal.invariant_of-self-in_err-extend_from_slice
invariant_of-self-in_err-extend_from_slice c =
    let full = c.in_err-extend_from_slice.ensures.full in
    let room = c.in_ok-reserve.ensures.ok in
    absurd (omega (arith, full, room, c.keep_others.ensures.len, c.keep_others.ensures.capacity, c.len.ensures, c.deref.ensures.len))

pub returns-in_err-extend_from_slice-clause-err : goal.returns-in_err-extend_from_slice-clause-err
returns-in_err-extend_from_slice-clause-err c =
    let full = c.in_err-extend_from_slice.ensures.full in
    let room = c.in_ok-reserve.ensures.ok in
    absurd (omega (arith, full, room, c.keep_others.ensures.len, c.keep_others.ensures.capacity, c.len.ensures, c.deref.ensures.len))

pub returns-clause-ok : goal.returns-clause-ok
returns-clause-ok c =
    let kept = ap of_list c.keep_others.ensures.kept ∙ of_list-filter (λ p. not (touches c.args.later.now p.0)) _
    ∙ ap (λ u. set.retain u (λ p. not (touches c.args.later.now p.0))) (ap of_list c.in_ok-reserve.ensures.items ∙ c.self.view_is) in
    let added = ap of_list c.deref.ensures.value ∙ c.later.view_is in
    c.settle.ensures.same ∙ ap of_list c.in_ok-extend_from_slice.ensures.items ∙ of_list-append _ _ ∙ λ i. set.union (kept i) (added i)
