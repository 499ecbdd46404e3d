use Rattle.std.proofs.Common.{sym, subst, ap, ◌∙◌}
use Rattle.std.specs.FinMap.{get}
use Rattle.asm_node.specs.UpdateSet.{consistent, touches, fire}
use Rattle.asm_node.proofs.UpdateSets.{of_list}
use Rattle.asm_update.specs.Applied.{IsOfSlots, HaveSlots, put_in}
use Rattle.asm_update.proofs.Putting.{put_in-fires, put_in-others, have_slots}
use Rattle.asm_update.proofs.updates.Updates.apply.Goals as goal

pub put_in-requires : goal.put_in-requires
put_in-requires g c =
    let s = g.S.Store.state c.args.store.now in
    subst (λ ps. HaveSlots ps s) (sym c.deref.ensures.value) (have_slots c.self.inside.pairs.items s (subst (λ u. IsOfSlots u s) (sym c.self.view_is) c.requires.slots))

pub returns-clause-fired : goal.returns-clause-fired
returns-clause-fired g c =
    let s = g.S.Store.state c.args.store.now in
    let ps = c.self.inside.pairs.items in
    let is = c.put_in.ensures ∙ ap (put_in s) c.deref.ensures.value in
    is ∙ put_in-fires ps s (subst (λ u. IsOfSlots u s) (sym c.self.view_is) c.requires.slots) (ap consistent c.self.view_is ∙ c.requires.consistent)
    ∙ ap (fire s) c.self.view_is

pub returns-clause-others : goal.returns-clause-others
returns-clause-others g c slot none =
    let s = g.S.Store.state c.args.store.now in
    let ps = c.self.inside.pairs.items in
    ap (λ t. get t slot) (c.put_in.ensures ∙ ap (put_in s) c.deref.ensures.value)
    ∙ put_in-others ps s slot (ap (λ u. touches u slot) c.self.view_is ∙ none)
