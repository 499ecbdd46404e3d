use Rattle.std.proofs.Common.{◌≡◌, sym, subst, ◌∙◌}
use Rattle.asm_node.specs.Machine.{slot_at}
use Rattle.asm_node.specs.Model.{machine_of}
use Rattle.asm_eval.specs.Answer.{Answers}
use Rattle.asm_eval.specs.World.{world_in}
use Rattle.asm_node.proofs.Slots.{slot_is}
use Rattle.asm_eval.proofs.Locations.{kept_value, asked_value, absent_value}
use Rattle.asm_eval.proofs.location.location_value.Goals as goal

pub returns-then-is_kept : goal.returns-then-is_kept
returns-then-is_kept g c =
    kept_value (world_in (machine_of c.args.world.now.model.now) (g.S.Store.state c.args.world.now.store.now) c.args.world.now.input.now) c.args.function.now.kind _ c.in-Some.slot c.get.result
    (sym c.if-is_kept.ensures) (subst (λ s. slot_at s c.args.number c.args.values.now ≡ c.slot_of.result) c.signature.ensures (slot_is c.signature.result.now c.args.number c.args.values.now c.slot_of.result c.slot_of.ensures.rank) ∙ c.in-Some.is) c.get.ensures

pub returns-else-is_kept : goal.returns-else-is_kept
returns-else-is_kept g c =
    subst (Answers (λ v. v) c.given.result)
    (sym (asked_value (world_in (machine_of c.args.world.now.model.now) (g.S.Store.state c.args.world.now.store.now) c.args.world.now.input.now) c.args.function.now.kind _ c.in-Some.slot
    (sym c.if-is_kept.ensures) (subst (λ s. slot_at s c.args.number c.args.values.now ≡ c.slot_of.result) c.signature.ensures (slot_is c.signature.result.now c.args.number c.args.values.now c.slot_of.result c.slot_of.ensures.rank) ∙ c.in-Some.is)))
    c.given.ensures

pub returns-in-None : goal.returns-in-None
returns-in-None g c =
    absent_value (world_in (machine_of c.args.world.now.model.now) (g.S.Store.state c.args.world.now.store.now) c.args.world.now.input.now) c.args.function.now.kind _
    (subst (λ s. slot_at s c.args.number c.args.values.now ≡ c.slot_of.result) c.signature.ensures (slot_is c.signature.result.now c.args.number c.args.values.now c.slot_of.result c.slot_of.ensures.rank) ∙ c.in-None.is)
