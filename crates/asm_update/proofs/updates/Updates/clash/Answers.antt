use Rattle.std.proofs.Common.{sym, subst, ap, ◌∙◌}
use Rattle.asm_node.specs.UpdateSet.{consistent, clash}
use Rattle.asm_node.proofs.UpdateSets.{of_list}
use Rattle.asm_update.specs.Clash.{HaveLocations}
use Rattle.asm_update.proofs.Differing.{consistent_without_clash, none_is}
use Rattle.asm_update.proofs.updates.Updates.clash.Goals as goal

pub returns-clause-clash : goal.returns-clause-clash
returns-clause-clash c = c.first_clash.ensures.clash ∙ ap (clash c.args.signature.now) (ap of_list c.deref.ensures.value ∙ c.self.view_is)

pub returns-clause-consistent : goal.returns-clause-consistent
returns-clause-consistent c agrees = c.first_clash.ensures.consistent (ap consistent (ap of_list c.deref.ensures.value ∙ c.self.view_is) ∙ agrees)

pub returns-clause-inconsistent : goal.returns-clause-inconsistent
returns-clause-inconsistent c located none =
    let is = ap of_list c.deref.ensures.value ∙ c.self.view_is in
    sym (ap consistent is)
    ∙ consistent_without_clash c.args.signature.now c.deref.result.now (subst (HaveLocations c.args.signature.now) (sym is) located) (sym c.first_clash.ensures.clash ∙ none_is c.first_clash.result none)
